-- A violator after a pivot is mapped back to one before it.
use Rattle.std.proofs.Common.{◌≡◌, ◌≢◌, ◌⊎◌, inl, inr, ◌∙◌, ℕ, Bool, true, false, ℤ, pos, negsuc, neg_ℤ, ◌+ℤ◌, ◌*ℤ◌, ◌-ℤ◌, List, [], ◌∷◌, refl, ap, sym, subst, arith}
use mathlib.Core.Path.{ap₂}
use Rattle.std.specs.List.{AllByRecursion}
use Rattle.cmr_base.specs.Sums.{sum_over, IsEven, IsOdd, IsTwoModFour}
use Rattle.cmr_base.specs.Signing.{IsSign}
use Rattle.cmr_base.specs.Violator.{IsViolator}
use Rattle.cmr_base.proofs.Integers.{sums, products, mul_assoc, one-mul}
use Rattle.cmr_base.proofs.Parity.{even_not_odd, even-add, even-mul_right, four-mul_evens, four-mul_right, two_mod_four-add}
use Rattle.cmr_base.proofs.SumLaws.{sum_over-add, sum_over_same}
use Rattle.cmr_base.proofs.Lists.{HasOneMore, IsJoined, all_of, all_weaker, all_both, all-one_more, sum_over-one_more, all_without, item_of_one_more}
use Rattle.cmr_base.specs.PlacedPivots.{pivoted}
use Rattle.ghouila.specs.Found.{HasParity}
use Rattle.ghouila.proofs.PivotSums.{pivoted_at, sum_over_row, sum_over_column, sum_over_pivot_column}
use Rattle.cmr_base.proofs.SignEntries.{sign_square}
use Rattle.cmr_base.specs.Cuts.{bit}

-- A violator on R and C after the pivot at r and c, which are counted separately: row r counts g times and column c counts h times. If g is
-- odd, h is the sum of row r over C. If h is odd, g is the sum of column c over R.
pub record IsViolatorAfter (M : ℕ → ℕ → ℤ) (r c : ℕ) (R C : List ℕ) (g h : ℤ) : Type 0 where
  pub rows : AllByRecursion (λ i. IsEven (sum_over C (M i) -ℤ M r c *ℤ (M i c *ℤ h))) R
  pub columns : AllByRecursion (λ j. IsEven (sum_over R (λ i. M i j) -ℤ M r c *ℤ (g *ℤ M r j))) C
  pub row_sum : (sum_over C (M r) ≡ h) ⊎ IsEven g
  pub column_sum : (sum_over R (λ i. M i c) ≡ g) ⊎ IsEven h
  pub total : IsTwoModFour (sum_over R (λ i. sum_over C (M i)) -ℤ M r c *ℤ (g *ℤ h))

-- ---- arithmetic

-- a times an odd number is odd
odd_by_sign : (a h : ℤ) → IsSign a → IsOdd h → IsEven (a *ℤ h +ℤ pos 1)
odd_by_sign a h (inl e) (k, f) = (k, rw e (simp products (omega (arith, sums))))
odd_by_sign a h (inr e) (k, f) = (pos 1 -ℤ k, rw e (simp products (omega (arith, sums))))

pub sign_and_odd : (a h : ℤ) → IsSign a → IsOdd h → IsEven (a +ℤ h)
sign_and_odd a h (inl e) (k, f) = (k, rw e (omega (arith, sums)))
sign_and_odd a h (inr e) (k, f) = (k -ℤ pos 1, rw e (omega (arith, sums)))

line_even : (a p h x : ℤ) → IsEven h → IsEven (x -ℤ a *ℤ (p *ℤ h)) → IsEven x
line_even a p h x e after = subst IsEven (back a p h x) (even-add (x -ℤ a *ℤ (p *ℤ h)) (a *ℤ (p *ℤ h)) after (even-mul_right a (p *ℤ h) (even-mul_right p h e)))
  where
    back : (a p h x : ℤ) → (x -ℤ a *ℤ (p *ℤ h)) +ℤ a *ℤ (p *ℤ h) ≡ x
    back a p h x = omega (arith, sums)

line_odd : (a p h x : ℤ) → IsEven (a *ℤ h +ℤ pos 1) → IsEven (x -ℤ a *ℤ (p *ℤ h)) → IsEven (p +ℤ x)
line_odd a p h x e after = subst IsEven (back a p h x) (even-add (x -ℤ a *ℤ (p *ℤ h)) (p *ℤ (a *ℤ h +ℤ pos 1)) after (even-mul_right p (a *ℤ h +ℤ pos 1) e))
  where
    back : (a p h x : ℤ) → (x -ℤ a *ℤ (p *ℤ h)) +ℤ p *ℤ (a *ℤ h +ℤ pos 1) ≡ p +ℤ x
    back a p h x = simp products (omega (arith, sums))

total_even_even : (a g h x : ℤ) → IsEven g → IsEven h → IsTwoModFour (x -ℤ a *ℤ (g *ℤ h)) → IsTwoModFour x
total_even_even a g h x e f two = subst IsTwoModFour (back a g h x) (two_mod_four-add (x -ℤ a *ℤ (g *ℤ h)) ((a *ℤ g) *ℤ h) two (four-mul_evens (a *ℤ g) h (even-mul_right a g e) f))
  where
    back : (a g h x : ℤ) → (x -ℤ a *ℤ (g *ℤ h)) +ℤ (a *ℤ g) *ℤ h ≡ x
    back a g h x = simp products (omega (arith, sums))

total_even_odd : (a g h x : ℤ) → IsEven g → IsEven (a *ℤ h +ℤ pos 1) → IsTwoModFour (x -ℤ a *ℤ (g *ℤ h)) → IsTwoModFour (g +ℤ x)
total_even_odd a g h x e f two = subst IsTwoModFour (back a g h x) (two_mod_four-add (x -ℤ a *ℤ (g *ℤ h)) (g *ℤ (a *ℤ h +ℤ pos 1)) two (four-mul_evens g (a *ℤ h +ℤ pos 1) e f))
  where
    back : (a g h x : ℤ) → (x -ℤ a *ℤ (g *ℤ h)) +ℤ g *ℤ (a *ℤ h +ℤ pos 1) ≡ g +ℤ x
    back a g h x = simp products (omega (arith, sums))

total_odd_even : (a g h x : ℤ) → IsEven (a *ℤ g +ℤ pos 1) → IsEven h → IsTwoModFour (x -ℤ a *ℤ (g *ℤ h)) → IsTwoModFour (h +ℤ x)
total_odd_even a g h x e f two = total_even_odd a h g x f e (subst IsTwoModFour (turned a g h x) two)
  where
    turned : (a g h x : ℤ) → x -ℤ a *ℤ (g *ℤ h) ≡ x -ℤ a *ℤ (h *ℤ g)
    turned a g h x = simp products

total_odd_odd : (a g h x : ℤ) → IsSign a → IsEven (a *ℤ g +ℤ pos 1) → IsEven (a *ℤ h +ℤ pos 1) → IsTwoModFour (x -ℤ a *ℤ (g *ℤ h)) → IsTwoModFour ((a +ℤ h) +ℤ (g +ℤ x))
total_odd_odd a g h x u e f two = subst IsTwoModFour (back a g h x (sign_square a u)) (two_mod_four-add (x -ℤ a *ℤ (g *ℤ h)) (a *ℤ ((a *ℤ g +ℤ pos 1) *ℤ (a *ℤ h +ℤ pos 1))) two
    (four-mul_right a ((a *ℤ g +ℤ pos 1) *ℤ (a *ℤ h +ℤ pos 1)) (four-mul_evens (a *ℤ g +ℤ pos 1) (a *ℤ h +ℤ pos 1) e f)))
  where
    back : (a g h x : ℤ) → a *ℤ a ≡ pos 1 → (x -ℤ a *ℤ (g *ℤ h)) +ℤ a *ℤ ((a *ℤ g +ℤ pos 1) *ℤ (a *ℤ h +ℤ pos 1)) ≡ (a +ℤ h) +ℤ (g +ℤ x)
    back a g h x e =
        let s : (x : ℤ) → a *ℤ (a *ℤ x) ≡ x = λ x. sym (mul_assoc a a x) ∙ ap (λ (n : ℤ). n *ℤ x) e ∙ one-mul x in
        simp (products, s) (omega (arith, sums))

-- ---- the four cases

module _ (M : ℕ → ℕ → ℤ) (r c : ℕ) (u : IsSign (M r c)) (R C : List ℕ) (g h : ℤ) where
  rows_same : IsEven h → (Q : List ℕ) → AllByRecursion (λ i. IsEven (sum_over C (M i) -ℤ M r c *ℤ (M i c *ℤ h))) Q → AllByRecursion (λ i. IsEven (sum_over C (M i))) Q
  rows_same e Q after = all_weaker (λ i. IsEven (sum_over C (M i) -ℤ M r c *ℤ (M i c *ℤ h))) (λ i. IsEven (sum_over C (M i))) (λ i. line_even (M r c) (M i c) h (sum_over C (M i)) e) Q after

  rows_with : (C' : List ℕ) → HasOneMore c C C' → IsEven (M r c *ℤ h +ℤ pos 1) → (Q : List ℕ)
      → AllByRecursion (λ i. IsEven (sum_over C (M i) -ℤ M r c *ℤ (M i c *ℤ h))) Q → AllByRecursion (λ i. IsEven (sum_over C' (M i))) Q
  rows_with C' more e Q after = all_weaker (λ i. IsEven (sum_over C (M i) -ℤ M r c *ℤ (M i c *ℤ h))) (λ i. IsEven (sum_over C' (M i)))
      (λ i even. subst IsEven (sym (sum_over-one_more c C C' (M i) more)) (line_odd (M r c) (M i c) h (sum_over C (M i)) e even)) Q after

  turned : (a g q x : ℤ) → x -ℤ a *ℤ (g *ℤ q) ≡ x -ℤ a *ℤ (q *ℤ g)
  turned a g q x = simp products

  columns_same : IsEven g → AllByRecursion (λ j. IsEven (sum_over R (λ i. M i j) -ℤ M r c *ℤ (g *ℤ M r j))) C → AllByRecursion (λ j. IsEven (sum_over R (λ i. M i j))) C
  columns_same e after = all_weaker (λ j. IsEven (sum_over R (λ i. M i j) -ℤ M r c *ℤ (g *ℤ M r j))) (λ j. IsEven (sum_over R (λ i. M i j)))
      (λ j even. line_even (M r c) (M r j) g (sum_over R (λ i. M i j)) e (subst IsEven (turned (M r c) g (M r j) (sum_over R (λ i. M i j))) even)) C after

  columns_with : (R' : List ℕ) → HasOneMore r R R' → IsEven (M r c *ℤ g +ℤ pos 1)
      → AllByRecursion (λ j. IsEven (sum_over R (λ i. M i j) -ℤ M r c *ℤ (g *ℤ M r j))) C → AllByRecursion (λ j. IsEven (sum_over R' (λ i. M i j))) C
  columns_with R' more e after = all_weaker (λ j. IsEven (sum_over R (λ i. M i j) -ℤ M r c *ℤ (g *ℤ M r j))) (λ j. IsEven (sum_over R' (λ i. M i j)))
      (λ j even. subst IsEven (sym (sum_over-one_more r R R' (λ i. M i j) more))
      (line_odd (M r c) (M r j) g (sum_over R (λ i. M i j)) e (subst IsEven (turned (M r c) g (M r j) (sum_over R (λ i. M i j))) even))) C after

  total_with : (C' : List ℕ) → HasOneMore c C C' → (Q : List ℕ) → sum_over Q (λ i. sum_over C' (M i)) ≡ sum_over Q (λ i. M i c) +ℤ sum_over Q (λ i. sum_over C (M i))
  total_with C' more Q =
      sum_over_same Q (λ i. sum_over C' (M i)) (λ i. M i c +ℤ sum_over C (M i)) (all_of (λ i. sum_over C' (M i) ≡ M i c +ℤ sum_over C (M i)) (λ i. sum_over-one_more c C C' (M i) more) Q)
      ∙ sum_over-add Q (λ i. M i c) (λ i. sum_over C (M i))

  certain : {P : Type 0} (z : ℤ) → IsOdd z → P ⊎ IsEven z → P
  certain z odd (inl p) = p
  certain z odd (inr even) = absurd (even_not_odd z even odd)

  even_even : IsEven g → IsEven h → IsViolatorAfter M r c R C g h → IsViolator M R C
  even_even e f v = record {
    even_rows = rows_same f R v.rows;
    even_columns = columns_same e v.columns;
    two_mod_four = total_even_even (M r c) g h (sum_over R (λ i. sum_over C (M i))) e f v.total;
  }

  even_odd : (C' : List ℕ) → HasOneMore c C C' → IsEven g → IsOdd h → IsViolatorAfter M r c R C g h → IsViolator M R C'
  even_odd C' more e f v =
      let odd : IsEven (M r c *ℤ h +ℤ pos 1) = odd_by_sign (M r c) h u f in
      let column : sum_over R (λ i. M i c) ≡ g = certain h f v.column_sum in
      record {
        even_rows = rows_with C' more odd R v.rows;
        even_columns = all-one_more (λ j. IsEven (sum_over R (λ i. M i j))) c C C' more (subst IsEven (sym column) e) (columns_same e v.columns);
        two_mod_four = subst IsTwoModFour (ap (λ z. z +ℤ sum_over R (λ i. sum_over C (M i))) (sym column) ∙ sym (total_with C' more R))
            (total_even_odd (M r c) g h (sum_over R (λ i. sum_over C (M i))) e odd v.total);
      }

  odd_even : (R' : List ℕ) → HasOneMore r R R' → IsOdd g → IsEven h → IsViolatorAfter M r c R C g h → IsViolator M R' C
  odd_even R' more e f v =
      let odd : IsEven (M r c *ℤ g +ℤ pos 1) = odd_by_sign (M r c) g u e in
      let row : sum_over C (M r) ≡ h = certain g e v.row_sum in
      record {
        even_rows = all-one_more (λ i. IsEven (sum_over C (M i))) r R R' more (subst IsEven (sym row) f) (rows_same f R v.rows);
        even_columns = columns_with R' more odd v.columns;
        two_mod_four = subst IsTwoModFour (ap (λ z. z +ℤ sum_over R (λ i. sum_over C (M i))) (sym row) ∙ sym (sum_over-one_more r R R' (λ i. sum_over C (M i)) more))
            (total_odd_even (M r c) g h (sum_over R (λ i. sum_over C (M i))) odd f v.total);
      }

  odd_odd : (R' C' : List ℕ) → HasOneMore r R R' → HasOneMore c C C' → IsOdd g → IsOdd h → IsViolatorAfter M r c R C g h → IsViolator M R' C'
  odd_odd R' C' more more' e f v =
      let odd : IsEven (M r c *ℤ g +ℤ pos 1) = odd_by_sign (M r c) g u e in
      let odd' : IsEven (M r c *ℤ h +ℤ pos 1) = odd_by_sign (M r c) h u f in
      let row : sum_over C (M r) ≡ h = certain g e v.row_sum in
      let column : sum_over R (λ i. M i c) ≡ g = certain h f v.column_sum in
      let head : IsEven (M r c +ℤ sum_over C (M r)) = sign_and_odd (M r c) (sum_over C (M r)) u (subst IsOdd (sym row) f) in
      let side : IsEven (M r c +ℤ sum_over R (λ i. M i c)) = sign_and_odd (M r c) (sum_over R (λ i. M i c)) u (subst IsOdd (sym column) e) in
      record {
        even_rows = all-one_more (λ i. IsEven (sum_over C' (M i))) r R R' more (subst IsEven (sym (sum_over-one_more c C C' (M r) more')) head) (rows_with C' more' odd' R v.rows);
        even_columns = all-one_more (λ j. IsEven (sum_over R' (λ i. M i j))) c C C' more' (subst IsEven (sym (sum_over-one_more r R R' (λ i. M i c) more)) side) (columns_with R' more odd v.columns);
        two_mod_four = subst IsTwoModFour
            (ap₂ (λ (y z : ℤ). (M r c +ℤ y) +ℤ (z +ℤ sum_over R (λ i. sum_over C (M i)))) (sym row) (sym column)
            ∙ sym (sum_over-one_more r R R' (λ i. sum_over C' (M i)) more ∙ ap (λ z. z +ℤ sum_over R (λ i. sum_over C' (M i))) (sum_over-one_more c C C' (M r) more')
            ∙ ap (λ z. (M r c +ℤ sum_over C (M r)) +ℤ z) (total_with C' more' R)))
            (total_odd_odd (M r c) g h (sum_over R (λ i. sum_over C (M i))) u odd odd' v.total);
      }

  -- the row is added if g is odd, and the column if h is odd
  pub violator_before : (row_in column_in : Bool) (R' C' : List ℕ) → HasParity row_in g → HasParity column_in h → IsJoined row_in r R R'
      → IsJoined column_in c C C' → IsViolatorAfter M r c R C g h → IsViolator M R' C'
  violator_before false false R' C' e f join join' v = subst (λ Q. IsViolator M Q C') (sym join) (subst (λ D. IsViolator M R D) (sym join') (even_even e f v))
  violator_before false true R' C' e f join join' v = subst (λ Q. IsViolator M Q C') (sym join) (even_odd C' join' e f v)
  violator_before true false R' C' e f join join' v = subst (λ D. IsViolator M R' D) (sym join') (odd_even R' join e f v)
  violator_before true true R' C' e f join join' v = odd_odd R' C' join join' e f v

module _ (M : ℕ → ℕ → ℤ) (r c : ℕ) where
  pub even_back : (a g : ℤ) → IsSign a → IsEven (neg_ℤ (a *ℤ g)) → IsEven g
  even_back a g (inl e) (k, f) = (neg_ℤ k, flipped g k (ap (λ x. neg_ℤ (x *ℤ g)) (sym e) ∙ f))
    where
      flipped : (g k : ℤ) → neg_ℤ (pos 1 *ℤ g) ≡ k +ℤ k → g ≡ neg_ℤ k +ℤ neg_ℤ k
      flipped g k f = let one : pos 1 *ℤ g ≡ g = simp products in omega (arith, sums)
  even_back a g (inr e) (k, f) = (k, kept g k (ap (λ x. neg_ℤ (x *ℤ g)) (sym e) ∙ f))
    where
      kept : (g k : ℤ) → neg_ℤ (negsuc 0 *ℤ g) ≡ k +ℤ k → g ≡ k +ℤ k
      kept g k f = let one : negsuc 0 *ℤ g ≡ neg_ℤ g = simp products in omega (arith, sums)

  pub row_after : (t : Bool) (i : ℕ) (C D : List ℕ) → IsJoined t c C D → AllByRecursion (λ j. j ≢ c) C
      → sum_over D (pivoted M r c i) ≡ sum_over C (M i) -ℤ M r c *ℤ (M i c *ℤ (sum_over C (M r) +ℤ bit t))
  row_after false i C D e others = ap (λ xs. sum_over xs (pivoted M r c i)) e ∙ sum_over_row M r c i C others ∙ plain (sum_over C (M i)) (M r c) (M i c) (sum_over C (M r))
    where
      plain : (x a p h : ℤ) → x -ℤ a *ℤ (p *ℤ h) ≡ x -ℤ a *ℤ (p *ℤ (h +ℤ pos 0))
      plain x a p h = simp products (omega (arith, sums))
  row_after true i C D more others =
      sum_over-one_more c C D (pivoted M r c i) more ∙ ap (λ z. z +ℤ sum_over C (pivoted M r c i)) (pivoted_at M r c i) ∙ ap (λ z. neg_ℤ (M r c *ℤ M i c) +ℤ z) (sum_over_row M r c i C others)
      ∙ plain (sum_over C (M i)) (M r c) (M i c) (sum_over C (M r))
    where
      plain : (x a p h : ℤ) → neg_ℤ (a *ℤ p) +ℤ (x -ℤ a *ℤ (p *ℤ h)) ≡ x -ℤ a *ℤ (p *ℤ (h +ℤ pos 1))
      plain x a p h = simp products (omega (arith, sums))

  pub total_after : (t : Bool) (R C D : List ℕ) → IsJoined t c C D → AllByRecursion (λ j. j ≢ c) C
      → sum_over R (λ i. sum_over D (pivoted M r c i)) ≡ sum_over R (λ i. sum_over C (M i)) -ℤ M r c *ℤ (sum_over R (λ i. M i c) *ℤ (sum_over C (M r) +ℤ bit t))
  total_after t [] C D join others = zero (M r c) (sum_over C (M r) +ℤ bit t)
    where
      zero : (a h : ℤ) → pos 0 ≡ pos 0 -ℤ a *ℤ (pos 0 *ℤ h)
      zero a h = simp products
  total_after t (i ∷ R) C D join others = rw (row_after t i C D join others, total_after t R C D join others)
      (add (sum_over C (M i)) (sum_over R (λ i'. sum_over C (M i'))) (M r c) (M i c) (sum_over R (λ i'. M i' c)) (sum_over C (M r) +ℤ bit t))
    where
      add : (x y a p g h : ℤ) → (x -ℤ a *ℤ (p *ℤ h)) +ℤ (y -ℤ a *ℤ (g *ℤ h)) ≡ (x +ℤ y) -ℤ a *ℤ ((p +ℤ g) *ℤ h)
      add x y a p g h = simp products (omega (arith, sums))

  columns_after : (R C : List ℕ) → AllByRecursion (λ j. j ≢ c) C → AllByRecursion (λ j. IsEven (sum_over R (λ i. pivoted M r c i j))) C
      → AllByRecursion (λ j. IsEven (sum_over R (λ i. M i j) -ℤ M r c *ℤ (sum_over R (λ i. M i c) *ℤ M r j))) C
  columns_after R C others even = all_both (λ j. j ≢ c) (λ j. IsEven (sum_over R (λ i. pivoted M r c i j))) (λ j. IsEven (sum_over R (λ i. M i j) -ℤ M r c *ℤ (sum_over R (λ i. M i c) *ℤ M r j)))
      (λ j other e. subst IsEven (sum_over_column M r c j R other) e) C others even

  -- the pivot's own column is counted separately
  pub violator_after : (t : Bool) (R C D : List ℕ) → IsSign (M r c) → IsJoined t c C D → AllByRecursion (λ j. j ≢ c) C → IsViolator (pivoted M r c) R D
      → IsViolatorAfter M r c R C (sum_over R (λ i. M i c)) (sum_over C (M r) +ℤ bit t)
  violator_after t R C D u join others v = record {
    rows = all_weaker (λ i. IsEven (sum_over D (pivoted M r c i))) (λ i. IsEven (sum_over C (M i) -ℤ M r c *ℤ (M i c *ℤ (sum_over C (M r) +ℤ bit t))))
        (λ i e. subst IsEven (row_after t i C D join others) e) R v.even_rows;
    columns = columns_after R C others (fewer t join v.even_columns);
    row_sum = at_row t join v.even_columns;
    column_sum = inl refl;
    total = subst IsTwoModFour (total_after t R C D join others) v.two_mod_four;
  }
    where
      fewer : (s : Bool) → IsJoined s c C D → AllByRecursion (λ j. IsEven (sum_over R (λ i. pivoted M r c i j))) D → AllByRecursion (λ j. IsEven (sum_over R (λ i. pivoted M r c i j))) C
      fewer false e all = subst (AllByRecursion (λ j. IsEven (sum_over R (λ i. pivoted M r c i j)))) e all
      fewer true more all = all_without (λ j. IsEven (sum_over R (λ i. pivoted M r c i j))) c C D more all

      zero : (z : ℤ) → z ≡ z +ℤ pos 0
      zero z = omega (arith, sums)

      at_row : (s : Bool) → IsJoined s c C D → AllByRecursion (λ j. IsEven (sum_over R (λ i. pivoted M r c i j))) D → (sum_over C (M r) ≡ sum_over C (M r) +ℤ bit s) ⊎ IsEven (sum_over R (λ i. M i c))
      at_row false e all = inl (zero (sum_over C (M r)))
      at_row true more all = inr (even_back (M r c) (sum_over R (λ i. M i c)) u
          (subst IsEven (sum_over_pivot_column M r c R) (item_of_one_more (λ j. IsEven (sum_over R (λ i. pivoted M r c i j))) c C D more all)))
