-- Laplace's expansion of a determinant along its first column, and its Schur complement.
use Rattle.std.proofs.Common.{◌≡◌, ◌<◌, inl, inr, ◌++◌, ◌∙◌, ℕ, zero, suc, ℤ, pos, neg_ℤ, ◌*ℤ◌, ◌-ℤ◌, List, [], ◌∷◌, length, slice_index, refl, ap, sym, arith}
use Rattle.std.specs.List.{AllByRecursion}
use Rattle.cmr_base.specs.Members.{IsIn}
use Rattle.cmr_base.specs.Signing.{IsSign}
use Rattle.cmr_base.specs.Determinants.{alternating_sum, without_place, determinant}
use Rattle.cmr_base.proofs.Integers.{sums, products, mul_assoc, one-mul}
use Rattle.cmr_base.proofs.Lists.{HasOneMore}
use Rattle.cmr_base.specs.PlacedPivots.{reduced}
use Rattle.cmr_base.proofs.SignEntries.{sign_square}

-- the alternating sum of a column's entries, each times the value of F at the rows without the entry's row
abbrev pub expansion : (ℕ → ℤ) → (List ℕ → ℤ) → List ℕ → ℤ
expansion v F [] = pos 0
expansion v F (i ∷ R) = v i *ℤ F R -ℤ expansion v (λ Q. F (i ∷ Q)) R

term_same : (a b p q x y : ℤ) → a ≡ b → p ≡ q → x ≡ y → a *ℤ p -ℤ x ≡ b *ℤ q -ℤ y
term_same a b p q x y e f g = rw (e, f, g) refl

pub expansion_same : (v w : ℕ → ℤ) (F G : List ℕ → ℤ) → ((i : ℕ) → v i ≡ w i) → (R : List ℕ) → ((Q : List ℕ) → F Q ≡ G Q) → expansion v F R ≡ expansion w G R
expansion_same v w F G e [] f = refl
expansion_same v w F G e (i ∷ R) f = term_same (v i) (w i) (F R) (G R) (expansion v (λ Q. F (i ∷ Q)) R) (expansion w (λ Q. G (i ∷ Q)) R) (e i) (f R)
    (expansion_same v w (λ Q. F (i ∷ Q)) (λ Q. G (i ∷ Q)) e R (λ Q. f (i ∷ Q)))

pub expansion-sub : (v : ℕ → ℤ) (F G : List ℕ → ℤ) (R : List ℕ) → expansion v (λ Q. F Q -ℤ G Q) R ≡ expansion v F R -ℤ expansion v G R
expansion-sub v F G [] = refl
expansion-sub v F G (i ∷ R) = plain (v i) (F R) (G R) (expansion v (λ Q. F (i ∷ Q)) R) (expansion v (λ Q. G (i ∷ Q)) R) (expansion v (λ Q. F (i ∷ Q) -ℤ G (i ∷ Q)) R)
    (expansion-sub v (λ Q. F (i ∷ Q)) (λ Q. G (i ∷ Q)) R)
  where
    plain : (a p q x y z : ℤ) → z ≡ x -ℤ y → a *ℤ (p -ℤ q) -ℤ z ≡ (a *ℤ p -ℤ x) -ℤ (a *ℤ q -ℤ y)
    plain a p q x y z e = rw e (simp products (omega (arith, sums)))

pub expansion-scale : (v : ℕ → ℤ) (k : ℤ) (F : List ℕ → ℤ) (R : List ℕ) → expansion v (λ Q. k *ℤ F Q) R ≡ k *ℤ expansion v F R
expansion-scale v k F [] = simp products
expansion-scale v k F (i ∷ R) = plain (v i) (F R) k (expansion v (λ Q. F (i ∷ Q)) R) (expansion v (λ Q. k *ℤ F (i ∷ Q)) R) (expansion-scale v k (λ Q. F (i ∷ Q)) R)
  where
    plain : (a p k x z : ℤ) → z ≡ k *ℤ x → a *ℤ (k *ℤ p) -ℤ z ≡ k *ℤ (a *ℤ p -ℤ x)
    plain a p k x z e = rw e (simp products (omega (arith, sums)))

-- a multiple of one column subtracted from another column
pub expansion_less : (v w : ℕ → ℤ) (k : ℤ) (F : List ℕ → ℤ) (R : List ℕ) → expansion (λ i. v i -ℤ k *ℤ w i) F R ≡ expansion v F R -ℤ k *ℤ expansion w F R
expansion_less v w k F [] = simp products
expansion_less v w k F (i ∷ R) = plain (v i) (w i) k (F R) (expansion v (λ Q. F (i ∷ Q)) R) (expansion w (λ Q. F (i ∷ Q)) R) (expansion (λ i'. v i' -ℤ k *ℤ w i') (λ Q. F (i ∷ Q)) R)
    (expansion_less v w k (λ Q. F (i ∷ Q)) R)
  where
    plain : (a b k p x y z : ℤ) → z ≡ x -ℤ k *ℤ y → (a -ℤ k *ℤ b) *ℤ p -ℤ z ≡ (a *ℤ p -ℤ x) -ℤ k *ℤ (b *ℤ p -ℤ y)
    plain a b k p x y z e = rw e (simp products (omega (arith, sums)))

-- two columns exchanged
pub expansion_exchange : (v w : ℕ → ℤ) (F : List ℕ → ℤ) (R : List ℕ) → expansion v (expansion w F) R ≡ neg_ℤ (expansion w (expansion v F) R)
expansion_exchange v w F [] = refl
expansion_exchange v w F (i ∷ R) = plain (v i) (w i) (expansion v F R) (expansion w F R)
    (expansion v (expansion w (λ Q. F (i ∷ Q))) R) (expansion w (expansion v (λ Q. F (i ∷ Q))) R)
    (expansion v (λ Q. expansion w F (i ∷ Q)) R) (expansion w (λ Q. expansion v F (i ∷ Q)) R)
    (opened v w) (opened w v) (expansion_exchange v w (λ Q. F (i ∷ Q)) R)
  where
    opened : (v w : ℕ → ℤ) → expansion v (λ Q. expansion w F (i ∷ Q)) R ≡ w i *ℤ expansion v F R -ℤ expansion v (expansion w (λ Q. F (i ∷ Q))) R
    opened v w = expansion-sub v (λ Q. w i *ℤ F Q) (expansion w (λ Q. F (i ∷ Q))) R
        ∙ ap (λ z. z -ℤ expansion v (expansion w (λ Q. F (i ∷ Q))) R) (expansion-scale v (w i) F R)

    plain : (a b p q x y s t : ℤ) → s ≡ b *ℤ p -ℤ x → t ≡ a *ℤ q -ℤ y → x ≡ neg_ℤ y → a *ℤ q -ℤ s ≡ neg_ℤ (b *ℤ p -ℤ t)
    plain a b p q x y s t e f g = omega (arith, sums)

-- a column used twice
pub expansion_twice : (v : ℕ → ℤ) (F : List ℕ → ℤ) (R : List ℕ) → expansion v (expansion v F) R ≡ pos 0
expansion_twice v F R = plain (expansion v (expansion v F) R) (expansion_exchange v v F R)
  where
    plain : (z : ℤ) → z ≡ neg_ℤ z → z ≡ pos 0
    plain z e = omega (arith, sums)

zero_term : (a p x : ℤ) → a ≡ pos 0 → x ≡ pos 0 → a *ℤ p -ℤ x ≡ pos 0
zero_term a p x e f = rw (e, f) (simp products)

zero_factor : (a p x : ℤ) → p ≡ pos 0 → x ≡ pos 0 → a *ℤ p -ℤ x ≡ pos 0
zero_factor a p x e f = rw (e, f) (simp products)

pub expansion_zero_column : (v : ℕ → ℤ) (F : List ℕ → ℤ) (R : List ℕ) → AllByRecursion (λ i. v i ≡ pos 0) R → expansion v F R ≡ pos 0
expansion_zero_column v F [] h = refl
expansion_zero_column v F (i ∷ R) h = zero_term (v i) (F R) (expansion v (λ Q. F (i ∷ Q)) R) h.0 (expansion_zero_column v (λ Q. F (i ∷ Q)) R h.1)

expansion_zero : (v : ℕ → ℤ) (F : List ℕ → ℤ) (R : List ℕ) → ((Q : List ℕ) → F Q ≡ pos 0) → expansion v F R ≡ pos 0
expansion_zero v F [] h = refl
expansion_zero v F (i ∷ R) h = zero_factor (v i) (F R) (expansion v (λ Q. F (i ∷ Q)) R) (h R) (expansion_zero v (λ Q. F (i ∷ Q)) R (λ Q. h (i ∷ Q)))

-- F is 0 on the lists with this row
abbrev VanishesWith : ℕ → (List ℕ → ℤ) → Type 0
VanishesWith r F = (Q : List ℕ) → IsIn r Q → F Q ≡ pos 0

expansion_zero_row : (v : ℕ → ℤ) (r : ℕ) → v r ≡ pos 0 → (F : List ℕ → ℤ) → VanishesWith r F → VanishesWith r (expansion v F)
expansion_zero_row v r e F h [] there = absurd there
expansion_zero_row v r e F h (i ∷ R) (inl here) = zero_term (v i) (F R) (expansion v (λ Q. F (i ∷ Q)) R) (ap v (sym here) ∙ e) (expansion_zero v (λ Q. F (i ∷ Q)) R (λ Q. h (i ∷ Q) (inl here)))
expansion_zero_row v r e F h (i ∷ R) (inr there) = zero_factor (v i) (F R) (expansion v (λ Q. F (i ∷ Q)) R) (h R there) (expansion_zero_row v r e (λ Q. F (i ∷ Q)) (λ Q k. h (i ∷ Q) (inr k)) R there)

in_middle : (r : ℕ) (prefix back : List ℕ) → IsIn r (prefix ++ r ∷ back)
in_middle r [] back = inl refl
in_middle r (x ∷ prefix) back = inr (in_middle r prefix back)

-- equal up to a sign
pub record IsUpToSign (x y : ℤ) : Type 0 where
  pub sign : ℤ
  pub is_sign : IsSign sign
  pub equal : x ≡ sign *ℤ y

turned_sign : (s : ℤ) → IsSign s → IsSign (neg_ℤ s)
turned_sign s (inl e) = inr (ap neg_ℤ e)
turned_sign s (inr e) = inl (ap neg_ℤ e)

-- only the term of this row is nonzero
expansion_at : (v : ℕ → ℤ) (r : ℕ) (prefix back : List ℕ) (F : List ℕ → ℤ) → VanishesWith r F → IsUpToSign (expansion v F (prefix ++ r ∷ back)) (v r *ℤ F (prefix ++ back))
expansion_at v r [] back F h = record {
  sign = pos 1;
  is_sign = inl refl;
  equal = plain (v r *ℤ F back) (expansion v (λ Q. F (r ∷ Q)) back) (expansion_zero v (λ Q. F (r ∷ Q)) back (λ Q. h (r ∷ Q) (inl refl)));
}
  where
    plain : (z x : ℤ) → x ≡ pos 0 → z -ℤ x ≡ pos 1 *ℤ z
    plain z x e = let one : pos 1 *ℤ z ≡ z = one-mul z in omega (arith, sums)
expansion_at v r (i ∷ prefix) back F h =
    let s = expansion_at v r prefix back (λ Q. F (i ∷ Q)) (λ Q k. h (i ∷ Q) (inr k)) in
    record {
      sign = neg_ℤ s.sign;
      is_sign = turned_sign s.sign s.is_sign;
      equal = plain (v i) (F (prefix ++ r ∷ back)) (expansion v (λ Q. F (i ∷ Q)) (prefix ++ r ∷ back)) s.sign (v r *ℤ F (i ∷ (prefix ++ back))) (h (prefix ++ r ∷ back) (in_middle r prefix back)) s.equal;
    }
  where
    plain : (a p x s z : ℤ) → p ≡ pos 0 → x ≡ s *ℤ z → a *ℤ p -ℤ x ≡ neg_ℤ s *ℤ z
    plain a p x s z e f = rw (e, f) (simp products (omega (arith, sums)))

-- ---- determinants

abbrev one_if_none : List ℕ → ℤ
one_if_none [] = pos 1
one_if_none (i ∷ R) = pos 0

-- the determinant, or 0 if the numbers of rows and columns differ
abbrev pub minor : (ℕ → ℕ → ℤ) → List ℕ → List ℕ → ℤ
minor M [] = one_if_none
minor M (c ∷ C) = expansion (λ i. M i c) (minor M C)

length-without_place : (R : List ℕ) (k n : ℕ) → k < length R → length R ≡ suc n → length (without_place R k) ≡ n
length-without_place [] k n l e = absurd (omega arith)
length-without_place (i ∷ R) zero n l e = omega arith
length-without_place (i ∷ []) (suc k) n l e = absurd (omega arith)
length-without_place (i ∷ j ∷ R) (suc k) zero l e = absurd (omega arith)
length-without_place (i ∷ j ∷ R) (suc k) (suc n) l e = ap suc (length-without_place (j ∷ R) k n (omega arith) (omega arith))

alternating_expansion : (v : ℕ → ℤ) (F G : List ℕ → ℤ) (R : List ℕ) → ((k : ℕ) → k < length R → F (without_place R k) ≡ G (without_place R k))
    → alternating_sum (length R) (λ k. v (slice_index R k) *ℤ F (without_place R k)) ≡ expansion v G R
alternating_expansion v F G [] same = refl
alternating_expansion v F G (i ∷ R) same = term_same (v i) (v i) (F R) (G R)
    (alternating_sum (length R) (λ k. v (slice_index R k) *ℤ F (i ∷ without_place R k))) (expansion v (λ Q. G (i ∷ Q)) R) refl (same 0 (omega arith))
    (alternating_expansion v (λ Q. F (i ∷ Q)) (λ Q. G (i ∷ Q)) R (λ k l. same (suc k) (omega arith)))

pub determinant_is : (M : ℕ → ℕ → ℤ) (C R : List ℕ) → length R ≡ length C → determinant M R C ≡ minor M C R
determinant_is M [] [] e = refl
determinant_is M [] (i ∷ R) e = absurd (omega arith)
determinant_is M (c ∷ C) R e = alternating_expansion (λ i. M i c) (λ Q. determinant M Q C) (minor M C) R
    (λ k l. determinant_is M C (without_place R k) (length-without_place R k (length C) l e))

pub minor_same : (M N : ℕ → ℕ → ℤ) (C : List ℕ) → AllByRecursion (λ j. (i : ℕ) → M i j ≡ N i j) C → (R : List ℕ) → minor M C R ≡ minor N C R
minor_same M N [] same R = refl
minor_same M N (c ∷ C) same R = expansion_same (λ i. M i c) (λ i. N i c) (minor M C) (minor N C) same.0 R (minor_same M N C same.1)

-- multiples of the first column subtracted from the other columns
minor_step : (v : ℕ → ℤ) (M N : ℕ → ℕ → ℤ) (t : ℕ → ℤ) → ((i j : ℕ) → N i j ≡ M i j -ℤ t j *ℤ v i) → (C R : List ℕ) → expansion v (minor N C) R ≡ expansion v (minor M C) R
minor_step v M N t less [] R = refl
minor_step v M N t less (j ∷ C) R =
    expansion_exchange v (λ i. N i j) (minor N C) R
    ∙ ap neg_ℤ (
    expansion_same (λ i. N i j) (λ i. M i j -ℤ t j *ℤ v i) (expansion v (minor N C)) (expansion v (minor M C)) (λ i. less i j) R (minor_step v M N t less C)
    ∙ expansion_less (λ i. M i j) v (t j) (expansion v (minor M C)) R
    ∙ plain (expansion (λ i. M i j) (expansion v (minor M C)) R) (t j) (expansion v (expansion v (minor M C)) R) (expansion_twice v (minor M C) R)
    )
    ∙ sym (expansion_exchange v (λ i. M i j) (minor M C) R)
  where
    plain : (x k z : ℤ) → z ≡ pos 0 → x -ℤ k *ℤ z ≡ x
    plain x k z e = rw e (simp products (omega (arith, sums)))

minor_zero_row : (N : ℕ → ℕ → ℤ) (r : ℕ) → ((j : ℕ) → N r j ≡ pos 0) → (C : List ℕ) → VanishesWith r (minor N C)
minor_zero_row N r zeros [] [] there = absurd there
minor_zero_row N r zeros [] (i ∷ R) there = refl
minor_zero_row N r zeros (c ∷ C) R there = expansion_zero_row (λ i. N i c) r (zeros c) (minor N C) (minor_zero_row N r zeros C) R there

-- a pivot at a sign removes its row and column: the determinant is the determinant of the Schur complement, up to sign
pub schur : (M : ℕ → ℕ → ℤ) (r c : ℕ) (C fewer R : List ℕ) → IsSign (M r c) → HasOneMore r fewer R → IsUpToSign (minor M (c ∷ C) R) (M r c *ℤ minor (reduced M r c) C fewer)
schur M r c C fewer R u more =
    let s = expansion_at (λ i. M i c) r more.prefix more.back (minor (reduced M r c) C) (minor_zero_row (reduced M r c) r (zeros (M r c) u) C) in
    record {
      sign = s.sign;
      is_sign = s.is_sign;
      equal =
          sym (minor_step (λ i. M i c) M (reduced M r c) (λ j. M r c *ℤ M r j) (λ i j. turned (M i j) (M r c) (M i c) (M r j)) C R)
          ∙ ap (expansion (λ i. M i c) (minor (reduced M r c) C)) more.more_is
          ∙ s.equal
          ∙ ap (λ Q. s.sign *ℤ (M r c *ℤ minor (reduced M r c) C Q)) (sym more.fewer_is);
    }
  where
    turned : (x a p q : ℤ) → x -ℤ a *ℤ (p *ℤ q) ≡ x -ℤ (a *ℤ q) *ℤ p
    turned x a p q = simp products

    left : (a q : ℤ) → a *ℤ a ≡ pos 1 → q -ℤ a *ℤ (a *ℤ q) ≡ pos 0
    left a q e =
        let s : a *ℤ (a *ℤ q) ≡ q = sym (mul_assoc a a q) ∙ ap (λ (n : ℤ). n *ℤ q) e ∙ one-mul q in
        omega (arith, sums)

    zeros : (a : ℤ) → IsSign a → (j : ℕ) → reduced M r c r j ≡ pos 0
    zeros a sign j = left (M r c) (M r j) (sign_square (M r c) u)
