-- A violator of a matrix of four blocks gives one of a child, if two of the blocks are products.
use Rattle.std.proofs.Common.{ℕ, ℤ, pos, Bool, true, false, List, [], ◌∷◌, ◌≡◌, ◌+ℤ◌, ◌*ℤ◌, ◌-ℤ◌, ◌∙◌, ap, ap₂, refl, arith, subst, ◌⊎◌, inl, inr}
use Rattle.std.specs.List.{AllByRecursion}
use Rattle.cmr_base.specs.Sums.{sum_over, IsEven, IsTwoModFour}
use Rattle.cmr_base.specs.Signing.{IsSign}
use Rattle.ghouila.proofs.ViolatedLines.{ViolatedIn}
use Rattle.cmr_base.proofs.Integers.{sums, products}
use Rattle.cmr_base.proofs.SumLaws.{sum_over-scale, sum_over-scale_right}
use Rattle.cmr_base.proofs.Parity.{even_or_odd}
use Rattle.ghouila.proofs.ParityBits.{Bit, bit, bit_of, when}
use Rattle.ghouila.proofs.CountedSides.{Counted, grown, counted_lines, by_rows, by_columns}
use Rattle.cmr_base.proofs.Lists.{all_weaker}
use Rattle.ghouila.proofs.BlockViolators.{all_kept, all_other, kept, other, Blocks, Cut, cut}
use Rattle.ghouila.proofs.SideTotals.{totals}
use Rattle.ghouila.proofs.BorderedSides.{Edge, violated}

pub two_or : (x y : ℤ) → IsTwoModFour (x +ℤ y) → IsEven x → IsTwoModFour x ⊎ IsTwoModFour y
two_or x y (k, e) (l, f) = elim (even_or_odd l) [
  | inl p ↦ inr (k -ℤ p.0, let q = p.1 in omega (arith, sums))
  | inr p ↦ inl (p.0 -ℤ pos 1, let q = p.1 in omega (arith, sums))
]

swap_even : (x y : ℤ) → IsEven (x +ℤ y) → IsEven (y +ℤ x)
swap_even x y (k, e) = (k, omega (arith, sums))

odd_not_zero : (xs : List ℕ) (d : ℕ → ℤ) (b : Bit (sum_over xs d)) → b.odd ≡ true → ((x : ℕ) → d x ≡ pos 0) → ⊥
odd_not_zero xs d b e z = no b.odd b.half (zero xs) b.is e
  where
    zero : (ys : List ℕ) → sum_over ys d ≡ pos 0
    zero [] = refl
    zero (y ∷ ys) = rw (z y, zero ys) refl

    no : (s : Bool) (h : ℤ) → sum_over xs d ≡ pos 0 → sum_over xs d ≡ bit s +ℤ (h +ℤ h) → s ≡ true → ⊥
    no s h e f g = plain (sum_over xs d) h e (f ∙ ap (λ (t : Bool). bit t +ℤ (h +ℤ h)) g)
      where
        plain : (n h : ℤ) → n ≡ pos 0 → n ≡ pos 1 +ℤ (h +ℤ h) → ⊥
        plain n h e f = omega (arith, sums)

-- the lines of the sides, by their names in the children
pub record Sides (P Q : ℕ → Type 0) (sr sc : ℕ → Bool) (f g h k : ℕ → ℕ) (S1 T1 S2 T2 P1 Q1 P2 Q2 : ℕ → Type 0) : Type 0 where
  pub one_row : (r : ℕ) → P r → sr r ≡ true → S1 (f r)
  pub one_column : (x : ℕ) → Q x → sc x ≡ true → T1 (g x)
  pub two_row : (r : ℕ) → P r → sr r ≡ false → S2 (h r)
  pub two_column : (x : ℕ) → Q x → sc x ≡ false → T2 (k x)
  pub first_row : (r : ℕ) → S1 r → P1 r
  pub first_column : (x : ℕ) → T1 x → Q1 x
  pub second_row : (r : ℕ) → S2 r → P2 r
  pub second_column : (x : ℕ) → T2 x → Q2 x

module _ (M1 M2 : ℕ → ℕ → ℤ) (a b c d : ℕ → ℤ) (R1 C1 R2 C2 : List ℕ) (v : Cut M1 (λ r x. a r *ℤ b x) (λ r x. d r *ℤ c x) M2 R1 C1 R2 C2) where
  pub first_counted : Counted M1 R1 C1 a (sum_over C2 b) c (sum_over R2 d)
  first_counted = record {
    rows = all_weaker (λ r. IsEven (sum_over C1 (λ x. M1 r x) +ℤ sum_over C2 (λ x. a r *ℤ b x))) (λ r. IsEven (sum_over C1 (λ x. M1 r x) +ℤ a r *ℤ sum_over C2 b))
        (λ r h. subst (λ (n : ℤ). IsEven (sum_over C1 (λ x. M1 r x) +ℤ n)) (sum_over-scale C2 (a r) b) h) R1 v.rows1;
    columns = all_weaker (λ x. IsEven (sum_over R1 (λ r. M1 r x) +ℤ sum_over R2 (λ r. d r *ℤ c x))) (λ x. IsEven (sum_over R1 (λ r. M1 r x) +ℤ sum_over R2 d *ℤ c x))
        (λ x h. subst (λ (n : ℤ). IsEven (sum_over R1 (λ r. M1 r x) +ℤ n)) (sum_over-scale_right R2 (c x) d) h) C1 v.columns1;
  }

  pub second_counted : Counted M2 R2 C2 d (sum_over C1 c) b (sum_over R1 a)
  second_counted = record {
    rows = all_weaker (λ r. IsEven (sum_over C1 (λ x. d r *ℤ c x) +ℤ sum_over C2 (λ x. M2 r x))) (λ r. IsEven (sum_over C2 (λ x. M2 r x) +ℤ d r *ℤ sum_over C1 c))
        (λ r h. subst (λ (n : ℤ). IsEven (sum_over C2 (λ x. M2 r x) +ℤ n)) (sum_over-scale C1 (d r) c) (swap_even (sum_over C1 (λ x. d r *ℤ c x)) (sum_over C2 (λ x. M2 r x)) h)) R2 v.rows2;
    columns = all_weaker (λ x. IsEven (sum_over R1 (λ r. a r *ℤ b x) +ℤ sum_over R2 (λ r. M2 r x))) (λ x. IsEven (sum_over R2 (λ r. M2 r x) +ℤ sum_over R1 a *ℤ b x))
        (λ x h. subst (λ (n : ℤ). IsEven (sum_over R2 (λ r. M2 r x) +ℤ n)) (sum_over-scale_right R1 (b x) a) (swap_even (sum_over R1 (λ r. a r *ℤ b x)) (sum_over R2 (λ r. M2 r x)) h)) C2 v.columns2;
  }

  pub whole : IsTwoModFour ((sum_over R1 (λ r. sum_over C1 (λ x. M1 r x)) +ℤ sum_over R1 a *ℤ sum_over C2 b) +ℤ (sum_over R2 d *ℤ sum_over C1 c +ℤ sum_over R2 (λ r. sum_over C2 (λ x. M2 r x))))
  whole = subst IsTwoModFour (ap₂ (λ (m n : ℤ). (sum_over R1 (λ r. sum_over C1 (λ x. M1 r x)) +ℤ m) +ℤ (n +ℤ sum_over R2 (λ r. sum_over C2 (λ x. M2 r x))))
      (product R1 C2 a b) (product R2 C1 d c)) v.total
    where
      spread : (x y z : ℤ) → x *ℤ y +ℤ z *ℤ y ≡ (x +ℤ z) *ℤ y
      spread x y z = simp products

      product : (R C : List ℕ) (f g : ℕ → ℤ) → sum_over R (λ r. sum_over C (λ x. f r *ℤ g x)) ≡ sum_over R f *ℤ sum_over C g
      product [] C f g = simp products
      product (r ∷ R) C f g = rw (product R C f g, sum_over-scale C (f r) g) (spread (f r) (sum_over C g) (sum_over R f))

module _ (M M1 M2 : ℕ → ℕ → ℤ) (P Q : ℕ → Type 0) (sr sc : ℕ → Bool) (f g h k : ℕ → ℕ) (a b c d : ℕ → ℤ) (e : ℤ) (S1 T1 S2 T2 P1 Q1 P2 Q2 : ℕ → Type 0) where
  -- no line is added to a block with a zero part
  pub joined : Blocks M P Q sr sc f g h k M1 (λ r x. a r *ℤ b x) (λ r x. d r *ℤ c x) M2 → Sides P Q sr sc f g h k S1 T1 S2 T2 P1 Q1 P2 Q2 → IsSign e
      → ((s t u : Bool) → (s ≡ true → ((x : ℕ) → d x ≡ pos 0) → ⊥) → (t ≡ true → ((x : ℕ) → b x ≡ pos 0) → ⊥) → Edge M1 P1 Q1 S1 T1 a c (when u e) s t)
      → ((s t u : Bool) → (s ≡ true → ((x : ℕ) → a x ≡ pos 0) → ⊥) → (t ≡ true → ((x : ℕ) → c x ≡ pos 0) → ⊥) → Edge M2 P2 Q2 S2 T2 d b (when u e) s t)
      → ViolatedIn M P Q → ViolatedIn M1 P1 Q1 ⊎ ViolatedIn M2 P2 Q2
  joined blocks sides unit edge1 edge2 v =
      go (kept sr f v.R) (kept sc g v.C) (kept (other sr) h v.R) (kept (other sc) k v.C)
      (all_kept P S1 sr f sides.one_row v.R v.rows) (all_kept Q T1 sc g sides.one_column v.C v.columns) (all_other P S2 sr h sides.two_row v.R v.rows) (all_other Q T2 sc k sides.two_column v.C v.columns)
      (cut M P Q sr sc f g h k M1 (λ r x. a r *ℤ b x) (λ r x. d r *ℤ c x) M2 blocks v.R v.C v.rows v.columns v.violator)
    where
      go : (R1 C1 R2 C2 : List ℕ) → AllByRecursion S1 R1 → AllByRecursion T1 C1 → AllByRecursion S2 R2 → AllByRecursion T2 C2
          → Cut M1 (λ r x. a r *ℤ b x) (λ r x. d r *ℤ c x) M2 R1 C1 R2 C2 → ViolatedIn M1 P1 Q1 ⊎ ViolatedIn M2 P2 Q2
      go R1 C1 R2 C2 s1 t1 s2 t2 cuts =
          let ba = bit_of (sum_over R1 a) in
          let bb = bit_of (sum_over C2 b) in
          let bc = bit_of (sum_over C1 c) in
          let bd = bit_of (sum_over R2 d) in
          let one = first_counted M1 M2 a b c d R1 C1 R2 C2 cuts in
          let two = second_counted M1 M2 a b c d R1 C1 R2 C2 cuts in
          let lines1 = counted_lines M1 R1 C1 a (sum_over C2 b) c (sum_over R2 d) e unit one bb bd ba in
          let lines2 = counted_lines M2 R2 C2 d (sum_over C1 c) b (sum_over R1 a) e unit two bc ba bd in
          let sum = totals (sum_over R1 a) (sum_over C2 b) (sum_over C1 c) (sum_over R2 d) e (sum_over R1 (λ r. sum_over C1 (λ x. M1 r x))) (sum_over R2 (λ r. sum_over C2 (λ x. M2 r x))) ba bb bc bd unit
          (by_rows M1 R1 C1 a (sum_over C2 b) c (sum_over R2 d) e unit one bb bd ba) (by_columns M1 R1 C1 a (sum_over C2 b) c (sum_over R2 d) e unit one bb bd ba) (whole M1 M2 a b c d R1 C1 R2 C2 cuts) in
          elim (two_or (grown (sum_over R1 (λ r. sum_over C1 (λ x. M1 r x))) (sum_over R1 a) (sum_over C1 c) (when ba.odd e) bd.odd bb.odd) (grown (sum_over R2 (λ r. sum_over C2 (λ x. M2 r x))) (sum_over R2 d) (sum_over C2 b) (when bd.odd e) ba.odd bc.odd) sum lines1.even) [
            | inl w ↦ inl (violated M1 P1 Q1 S1 T1 R1 C1 a c (when ba.odd e) s1 t1 sides.first_row sides.first_column bd.odd bb.odd
                (edge1 bd.odd bb.odd ba.odd (odd_not_zero R2 d bd) (odd_not_zero C2 b bb)) lines1 w)
            | inr w ↦ inr (violated M2 P2 Q2 S2 T2 R2 C2 d b (when bd.odd e) s2 t2 sides.second_row sides.second_column ba.odd bc.odd
                (edge2 ba.odd bc.odd bd.odd (odd_not_zero R1 a ba) (odd_not_zero C1 c bc)) lines2 w)
          ]
