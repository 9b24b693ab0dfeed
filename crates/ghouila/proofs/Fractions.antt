-- A square submatrix whose determinant is not -1, 0 or 1 has fractional solutions.
use Rattle.std.proofs.Common.{◌≡◌, ◌≢◌, ◌<◌, ◌⊎◌, inl, inr, ◌+◌, ◌∙◌, ℕ, zero, suc, ℤ, pos, negsuc, neg_ℤ, ◌+ℤ◌, ◌*ℤ◌, ◌-ℤ◌, ◌≤ℤ◌, List, [], ◌∷◌, length, refl, ap, sym, subst, arith}
use Rattle.std.specs.List.{AllByRecursion}
use Rattle.cmr_base.specs.Matrix.{IsEntry}
use Rattle.cmr_base.specs.Signing.{IsSign}
use Rattle.cmr_base.specs.Sums.{sum_over}
use Rattle.cmr_base.proofs.Integers.{sums, products, mul_assoc}
use Rattle.cmr_base.proofs.SumLaws.{sum_over_same, sum_over-zero}
use Rattle.cmr_base.proofs.Lists.{HasOneMore, all_weaker, all_both, all_without, all-one_more, item_of_one_more}
use Rattle.cmr_base.proofs.IncreasingLists.{IncreasesIn, increasing_apart}
use Rattle.cmr_base.specs.PlacedPivots.{reduced}
use Rattle.ghouila.specs.IntegralLaws.{IsMultiple}
use Rattle.ghouila.proofs.SignedSums.{entry_zero, sign_is_entry}
use Rattle.ghouila.proofs.Expansions.{expansion_zero_column, minor}
use Rattle.ghouila.proofs.Sublists.{IsSublist, sublist_none, sublist_each, sublist_with, length-one_more, HasSignIn, zeros_or_sign}
use Rattle.ghouila.proofs.Minors.{one_minor, sign_twice, entry_before, entry_after}
use Rattle.ghouila.proofs.Eliminations.{product_reduced, IsIndependent, placed, placed_apart, sum_placed, at_row}
use Rattle.ghouila.proofs.Vertices.{product_not_below, multiple_at_least}

-- ---- products with a positive number

pub no_product : (d x : ℤ) → pos 1 ≤ℤ d → d *ℤ x ≡ pos 0 → x ≡ pos 0
no_product d (pos zero) l e = refl
no_product d (pos (suc n)) l e = absurd (let k = multiple_at_least d (pos (suc n)) (omega (arith, sums)) (omega (arith, sums)) in omega (arith, sums))
no_product d (negsuc n) l e = absurd (clash (d *ℤ negsuc n) (multiple_at_least d (pos (suc n)) (omega (arith, sums)) (omega (arith, sums))) turned e)
  where
    turned : d *ℤ pos (suc n) ≡ neg_ℤ (d *ℤ negsuc n)
    turned = plain d (negsuc n)
      where
        plain : (d x : ℤ) → d *ℤ neg_ℤ x ≡ neg_ℤ (d *ℤ x)
        plain d x = simp products

    clash : (s : ℤ) → d ≤ℤ (d *ℤ pos (suc n)) → d *ℤ pos (suc n) ≡ neg_ℤ s → s ≡ pos 0 → ⊥
    clash s k f e = omega (arith, sums)

-- 1 is not a multiple of a number above 1
no_unit : (d k : ℤ) → pos 2 ≤ℤ d → pos 1 ≡ d *ℤ k → ⊥
no_unit d (pos zero) l e = clash (e ∙ none d)
  where
    none : (d : ℤ) → d *ℤ pos 0 ≡ pos 0
    none d = simp products

    clash : pos 1 ≡ pos 0 → ⊥
    clash e = omega (arith, sums)
no_unit d (pos (suc n)) l e = let k = multiple_at_least d (pos (suc n)) (omega (arith, sums)) (omega (arith, sums)) in omega (arith, sums)
no_unit d (negsuc n) l e = clash (d *ℤ negsuc n) (product_not_below d (pos (suc n)) (omega (arith, sums)) (omega (arith, sums))) (turned d (negsuc n)) e
  where
    turned : (d x : ℤ) → d *ℤ neg_ℤ x ≡ neg_ℤ (d *ℤ x)
    turned d x = simp products

    clash : (s : ℤ) → pos 0 ≤ℤ (d *ℤ pos (suc n)) → d *ℤ pos (suc n) ≡ neg_ℤ s → pos 1 ≡ s → ⊥
    clash s l f e = omega (arith, sums)

-- a number above 1, up to sign
record IsLarge (a : ℤ) : Type 0 where
  d : ℤ
  sign : ℤ
  large : pos 2 ≤ℤ d
  is_sign : IsSign sign
  equal : a ≡ d *ℤ sign

entry_or_large : (a : ℤ) → IsEntry a ⊎ IsLarge a
entry_or_large (pos zero) = inl entry_zero
entry_or_large (pos (suc zero)) = inl (sign_is_entry (pos 1) (inl refl))
entry_or_large (pos (suc (suc n))) = inr (record { d = pos (suc (suc n)); sign = pos 1; large = omega (arith, sums); is_sign = inl refl; equal = plain (pos (suc (suc n))) })
  where
    plain : (d : ℤ) → d ≡ d *ℤ pos 1
    plain d = simp products
entry_or_large (negsuc zero) = inl (sign_is_entry (negsuc 0) (inr refl))
entry_or_large (negsuc (suc n)) = inr (record { d = pos (suc (suc n)); sign = negsuc 0; large = omega (arith, sums); is_sign = inr refl; equal = plain (pos (suc (suc n))) })
  where
    plain : (d : ℤ) → neg_ℤ d ≡ d *ℤ negsuc 0
    plain d = simp products

-- ---- fractional solutions

-- the smaller square submatrices on some of these rows and columns have the determinant -1, 0 or 1
abbrev pub HasSmallerMinorsOn : (ℕ → ℕ → ℤ) → List ℕ → List ℕ → Type 0
HasSmallerMinorsOn M R C = (P Q : List ℕ) → IsSublist P R → IsSublist Q C → length P ≡ length Q → length Q < length C → IsEntry (minor M Q P)

-- y/d is not integral, its sums in the rows are integral, and the columns are independent
pub record HasFraction (M : ℕ → ℕ → ℤ) (R C : List ℕ) : Type 0 where
  pub d : ℤ
  pub y : ℕ → ℤ
  pub positive : pos 1 ≤ℤ d
  pub solves : AllByRecursion (λ i. IsMultiple d (sum_over C (λ j. M i j *ℤ y j))) R
  pub fraction : AllByRecursion (λ j. IsMultiple d (y j)) C → ⊥
  pub independent : IsIndependent M R C

-- 1/d at a single entry d or -d
fraction_alone : (M : ℕ → ℕ → ℤ) (r c : ℕ) → IsLarge (M r c) → HasFraction M (r ∷ []) (c ∷ [])
fraction_alone M r c h = record {
  d = h.d;
  y = λ j. pos 1;
  positive = let l = h.large in omega (arith, sums);
  solves = ((h.sign, single (M r c) h.d h.sign h.equal), tt);
  fraction = λ all. no_unit h.d all.0.0 h.large all.0.1;
  independent = λ z all. (nothing (M r c) h.d h.sign (z c) (let l = h.large in omega (arith, sums)) h.is_sign h.equal all.0, tt);
}
  where
    single : (a d s : ℤ) → a ≡ d *ℤ s → a *ℤ pos 1 +ℤ pos 0 ≡ d *ℤ s
    single a d s e = rw e (simp products (omega (arith, sums)))

    nothing : (a d s z : ℤ) → pos 1 ≤ℤ d → IsSign s → a ≡ d *ℤ s → a *ℤ z +ℤ pos 0 ≡ pos 0 → z ≡ pos 0
    nothing a d s z l u e f = sym (sign_twice s z u) ∙ ap (λ (x : ℤ). s *ℤ x) (no_product d (s *ℤ z) l (opened a d s z e f)) ∙ none s
      where
        none : (s : ℤ) → s *ℤ pos 0 ≡ pos 0
        none s = simp products

        opened : (a d s z : ℤ) → a ≡ d *ℤ s → a *ℤ z +ℤ pos 0 ≡ pos 0 → d *ℤ (s *ℤ z) ≡ pos 0
        opened a d s z e f = sym (mul_assoc d s z) ∙ ap (λ (x : ℤ). x *ℤ z) (sym e) ∙ plain (a *ℤ z) f
          where
            plain : (x : ℤ) → x +ℤ pos 0 ≡ pos 0 → x ≡ pos 0
            plain x e = omega (arith, sums)

-- a solution before a pivot: the number of the pivot's column solves the equation of the pivot's row
module _ (M : ℕ → ℕ → ℤ) (r c high : ℕ) (R' R C : List ℕ) (u : IsSign (M r c)) (more : HasOneMore r R' R) (increases : IncreasesIn (c + 1) high C) where
  apart : AllByRecursion (λ j. j ≢ c) C
  apart = increasing_apart (c + 1) high c C (omega arith) increases

  independent_before : IsIndependent (reduced M r c) R' C → IsIndependent M R (c ∷ C)
  independent_before free z h = (first (M r c) (z c) (sum_over C (λ j. M r j *ℤ z j)) u top (vanished C others), others)
    where
      top : M r c *ℤ z c +ℤ sum_over C (λ j. M r j *ℤ z j) ≡ pos 0
      top = item_of_one_more (λ i. M i c *ℤ z c +ℤ sum_over C (λ j. M i j *ℤ z j) ≡ pos 0) r R' R more h

      plain : (a p t x w : ℤ) → IsSign a → p *ℤ t +ℤ x ≡ pos 0 → a *ℤ t +ℤ w ≡ pos 0 → x -ℤ a *ℤ (p *ℤ w) ≡ pos 0
      plain a p t x w sign e f =
          let s : (k : ℤ) → a *ℤ (a *ℤ k) ≡ k = λ k. sign_twice a k sign in
          let x_is : x ≡ neg_ℤ (p *ℤ t) = omega (arith, sums) in
          let w_is : w ≡ neg_ℤ (a *ℤ t) = omega (arith, sums) in
          rw (x_is, w_is) (simp (products, s) (omega (arith, sums)))

      others : AllByRecursion (λ j. z j ≡ pos 0) C
      others = free z (all_weaker (λ i. M i c *ℤ z c +ℤ sum_over C (λ j. M i j *ℤ z j) ≡ pos 0) (λ i. sum_over C (λ j. reduced M r c i j *ℤ z j) ≡ pos 0)
          (λ i e. product_reduced M r c i z C ∙ plain (M r c) (M i c) (z c) (sum_over C (λ j. M i j *ℤ z j)) (sum_over C (λ j. M r j *ℤ z j)) u e top)
          R' (all_without (λ i. M i c *ℤ z c +ℤ sum_over C (λ j. M i j *ℤ z j) ≡ pos 0) r R' R more h))

      vanished : (D : List ℕ) → AllByRecursion (λ j. z j ≡ pos 0) D → sum_over D (λ j. M r j *ℤ z j) ≡ pos 0
      vanished D all = sum_over_same D (λ j. M r j *ℤ z j) (λ j. pos 0) (all_weaker (λ j. z j ≡ pos 0) (λ j. M r j *ℤ z j ≡ pos 0) (λ j e. nothing (M r j) (z j) e) D all) ∙ sum_over-zero D
        where
          nothing : (a x : ℤ) → x ≡ pos 0 → a *ℤ x ≡ pos 0
          nothing a x e = rw e (simp products)

      first : (a t w : ℤ) → IsSign a → a *ℤ t +ℤ w ≡ pos 0 → w ≡ pos 0 → t ≡ pos 0
      first a t w sign e f =
          let zero : a *ℤ t ≡ pos 0 = omega (arith, sums) in
          sym (sign_twice a t sign) ∙ ap (λ (x : ℤ). a *ℤ x) zero ∙ none a
        where
          none : (a : ℤ) → a *ℤ pos 0 ≡ pos 0
          none a = simp products

  fraction_before : HasFraction (reduced M r c) R' C → HasFraction M R (c ∷ C)
  fraction_before f = record {
    d = f.d;
    y = y;
    positive = f.positive;
    solves = all-one_more (λ i. IsMultiple f.d (M i c *ℤ y c +ℤ sum_over C (λ j. M i j *ℤ y j))) r R' R more
        (pos 0, sum_placed c t f.y (M r) C apart ∙ at_row (M r c) (sum_over C (λ j. M r j *ℤ f.y j)) u ∙ none f.d)
        (all_weaker (λ i. IsMultiple f.d (sum_over C (λ j. reduced M r c i j *ℤ f.y j))) (λ i. IsMultiple f.d (M i c *ℤ y c +ℤ sum_over C (λ j. M i j *ℤ y j)))
        (λ i k. (k.0, sum_placed c t f.y (M i) C apart ∙ other (M r c) (M i c) (sum_over C (λ j. M i j *ℤ f.y j)) (sum_over C (λ j. M r j *ℤ f.y j)) ∙ sym (product_reduced M r c i f.y C) ∙ k.1)) R' f.solves);
    fraction = λ all. f.fraction (all_both (λ j. j ≢ c) (λ j. IsMultiple f.d (y j)) (λ j. IsMultiple f.d (f.y j)) (λ j h k. subst (IsMultiple f.d) (placed_apart c t f.y j h) k) C apart all.1);
    independent = independent_before f.independent;
  }
    where
      t : ℤ
      t = neg_ℤ (M r c *ℤ sum_over C (λ j. M r j *ℤ f.y j))

      y : ℕ → ℤ
      y = placed c t f.y

      none : (d : ℤ) → pos 0 ≡ d *ℤ pos 0
      none d = simp products

      other : (a p x w : ℤ) → p *ℤ neg_ℤ (a *ℤ w) +ℤ x ≡ x -ℤ a *ℤ (p *ℤ w)
      other a p x w = simp products (omega (arith, sums))

-- induction on the number of lines, to the smallest submatrices
pub entry_or_fraction : (C R : List ℕ) (low high : ℕ) (M : ℕ → ℕ → ℤ) → IncreasesIn low high C → length R ≡ length C → HasSmallerMinorsOn M R C → IsEntry (minor M C R) ⊎ HasFraction M R C
entry_or_fraction [] [] low high M increases e minors = inl (sign_is_entry (pos 1) (inl refl))
entry_or_fraction [] (r ∷ R) low high M increases e minors = inl entry_zero
entry_or_fraction (c ∷ []) [] low high M increases e minors = inl entry_zero
entry_or_fraction (c ∷ []) (r ∷ []) low high M increases e minors = elim (entry_or_large (M r c)) [
  | inl h ↦ inl (subst IsEntry (sym (one_minor M r c)) h)
  | inr h ↦ inr (fraction_alone M r c h)
]
entry_or_fraction (c ∷ []) (r ∷ r' ∷ R) low high M increases e minors = absurd (omega arith)
entry_or_fraction (c ∷ c' ∷ C) R low high M increases e minors = elim (zeros_or_sign (λ i. M i c) R entries) [
  | inl zeros ↦ inl (subst IsEntry (sym (expansion_zero_column (λ i. M i c) (minor M (c' ∷ C)) R zeros)) entry_zero)
  | inr s ↦ pivot s (entry_or_fraction (c' ∷ C) s.others (c + 1) high (reduced M s.row c) increases.2 (shorter s) (smaller s))
]
  where
    entries : AllByRecursion (λ i. IsEntry (M i c)) R
    entries = all_weaker (λ i. IsSublist (i ∷ []) R) (λ i. IsEntry (M i c))
        (λ i h. subst IsEntry (one_minor M i c) (minors (i ∷ []) (c ∷ []) h (inr ([], refl, sublist_none (c' ∷ C))) refl (omega arith))) R (sublist_each R)

    shorter : (s : HasSignIn (λ i. M i c) R) → length s.others ≡ length (c' ∷ C)
    shorter s = let l = length-one_more s.row s.others R s.more in omega arith

    smaller : (s : HasSignIn (λ i. M i c) R) → HasSmallerMinorsOn (reduced M s.row c) s.others (c' ∷ C)
    smaller s P Q h k e l =
        let w = sublist_with s.row s.others R P s.more h in
        entry_after M s.row c Q P w.list s.sign w.more (minors w.list (c ∷ Q) w.sublist (inr (Q, refl, k)) (length-one_more s.row P w.list w.more ∙ ap suc e) (omega arith))

    pivot : (s : HasSignIn (λ i. M i c) R) → IsEntry (minor (reduced M s.row c) (c' ∷ C) s.others) ⊎ HasFraction (reduced M s.row c) s.others (c' ∷ C)
        → IsEntry (minor M (c ∷ c' ∷ C) R) ⊎ HasFraction M R (c ∷ c' ∷ C)
    pivot s (inl h) = inl (entry_before M s.row c (c' ∷ C) s.others R s.sign s.more h)
    pivot s (inr f) = inr (fraction_before M s.row c high s.others R (c' ∷ C) s.sign s.more increases.2 f)
