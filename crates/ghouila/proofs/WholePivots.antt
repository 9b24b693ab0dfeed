-- Sums of rows and columns after the pivot of a whole matrix, and a violator after it mapped back to one before it.
use Rattle.std.proofs.Common.{◌≡◌, ◌≢◌, ◌⊎◌, inl, inr, ◌∙◌, ℕ, Bool, true, false, ℤ, pos, negsuc, neg_ℤ, ◌+ℤ◌, ◌*ℤ◌, ◌-ℤ◌, List, refl, ap, subst, arith}
use mathlib.Core.Path.{ap₂}
use Rattle.std.specs.List.{AllByRecursion}
use Rattle.cmr_base.specs.Sums.{sum_over, IsEven, IsTwoModFour}
use Rattle.cmr_base.specs.Signing.{IsSign}
use Rattle.cmr_base.specs.Violator.{IsViolator}
use Rattle.cmr_base.proofs.Booleans.{is_ne, self_eq}
use Rattle.cmr_base.proofs.Integers.{sums, products}
use Rattle.cmr_base.proofs.Parity.{even_by_difference, odd_by_difference}
use Rattle.cmr_base.proofs.SumLaws.{sum_over-scale, sum_over_same}
use Rattle.cmr_base.proofs.Lists.{IsJoined, all_of, all_weaker, all_both, sum_over-one_more, all_without, item_of_one_more}
use Rattle.cmr_base.specs.PlacedPivots.{pivoted, pivot_entry}
use Rattle.ghouila.specs.Found.{HasParity}
use Rattle.ghouila.proofs.PivotSums.{sum_over_column, sum_over_pivot_column}
use Rattle.ghouila.proofs.PivotBack.{IsViolatorAfter, violator_before, even_back, row_after, total_after}
use Rattle.cmr_base.specs.Cuts.{bit}

-- all items of the longer list have a property, so all items of the shorter list have it
pub all_fewer : {A : Type 0} (P : A → Type 0) (there : Bool) (item : A) (fewer more : List A) → IsJoined there item fewer more → AllByRecursion P more → AllByRecursion P fewer
all_fewer P false item fewer more e all = subst (AllByRecursion P) e all
all_fewer P true item fewer more join all = all_without P item fewer more join all

module _ (M : ℕ → ℕ → ℤ) (r c : ℕ) where
  pub entry_there : pivot_entry M r c r c ≡ M r c
  entry_there = rw (self_eq r, self_eq c) refl

  pub entry_in_row : (j : ℕ) → j ≢ c → pivot_entry M r c r j ≡ M r c *ℤ M r j
  entry_in_row j h = rw (self_eq r, is_ne j c h) refl

  pub entry_elsewhere : (i j : ℕ) → i ≢ r → pivot_entry M r c i j ≡ pivoted M r c i j
  entry_elsewhere i j h = rw (is_ne i r h) refl

  row_sum : (t : Bool) (C D : List ℕ) → IsJoined t c C D → AllByRecursion (λ j. j ≢ c) C → sum_over D (pivot_entry M r c r) ≡ M r c *ℤ (sum_over C (M r) +ℤ bit t)
  row_sum t C D join others = go t join
    where
      shorter : sum_over C (pivot_entry M r c r) ≡ M r c *ℤ sum_over C (M r)
      shorter =
          sum_over_same C (pivot_entry M r c r) (λ j. M r c *ℤ M r j) (all_weaker (λ j. j ≢ c) (λ j. pivot_entry M r c r j ≡ M r c *ℤ M r j) entry_in_row C others)
          ∙ sum_over-scale C (M r c) (M r)

      plain : (a h : ℤ) → a *ℤ h ≡ a *ℤ (h +ℤ pos 0)
      plain a h = simp products (omega (arith, sums))

      more : (a h : ℤ) → a +ℤ a *ℤ h ≡ a *ℤ (h +ℤ pos 1)
      more a h = simp products (omega (arith, sums))

      go : (t : Bool) → IsJoined t c C D → sum_over D (pivot_entry M r c r) ≡ M r c *ℤ (sum_over C (M r) +ℤ bit t)
      go false e = ap (λ xs. sum_over xs (pivot_entry M r c r)) e ∙ shorter ∙ plain (M r c) (sum_over C (M r))
      go true join = sum_over-one_more c C D (pivot_entry M r c r) join ∙ ap₂ (λ (x y : ℤ). x +ℤ y) entry_there shorter ∙ more (M r c) (sum_over C (M r))

  other_row_sum : (t : Bool) (i : ℕ) (C D : List ℕ) → i ≢ r → IsJoined t c C D → AllByRecursion (λ j. j ≢ c) C
      → sum_over D (pivot_entry M r c i) ≡ sum_over C (M i) -ℤ M r c *ℤ (M i c *ℤ (sum_over C (M r) +ℤ bit t))
  other_row_sum t i C D apart join others =
      sum_over_same D (pivot_entry M r c i) (pivoted M r c i) (all_of (λ j. pivot_entry M r c i j ≡ pivoted M r c i j) (λ j. entry_elsewhere i j apart) D)
      ∙ row_after M r c t i C D join others

  same_elsewhere : (f g : ℕ → ℕ → ℤ) (R : List ℕ) (h : ℕ → ℤ) → AllByRecursion (λ i. i ≢ r) R → ((i j : ℕ) → i ≢ r → f i j ≡ g i j) → (j : ℕ) → sum_over R (λ i. f i j) ≡ sum_over R (λ i. g i j)
  same_elsewhere f g R h apart same j = sum_over_same R (λ i. f i j) (λ i. g i j) (all_weaker (λ i. i ≢ r) (λ i. f i j ≡ g i j) (λ i other. same i j other) R apart)

  column_sum : (s : Bool) (j : ℕ) (R P : List ℕ) → j ≢ c → IsJoined s r R P → AllByRecursion (λ i. i ≢ r) R
      → sum_over P (λ i. pivot_entry M r c i j) ≡ sum_over R (λ i. M i j) -ℤ M r c *ℤ ((sum_over R (λ i. M i c) -ℤ bit s) *ℤ M r j)
  column_sum s j R P other join apart = go s join
    where
      shorter : sum_over R (λ i. pivot_entry M r c i j) ≡ sum_over R (λ i. M i j) -ℤ M r c *ℤ (sum_over R (λ i. M i c) *ℤ M r j)
      shorter = same_elsewhere (pivot_entry M r c) (pivoted M r c) R (M r) apart entry_elsewhere j ∙ sum_over_column M r c j R other

      plain : (x a g q : ℤ) → x -ℤ a *ℤ (g *ℤ q) ≡ x -ℤ a *ℤ ((g -ℤ pos 0) *ℤ q)
      plain x a g q = simp products (omega (arith, sums))

      more : (x a g q : ℤ) → a *ℤ q +ℤ (x -ℤ a *ℤ (g *ℤ q)) ≡ x -ℤ a *ℤ ((g -ℤ pos 1) *ℤ q)
      more x a g q = simp products (omega (arith, sums))

      go : (s : Bool) → IsJoined s r R P → sum_over P (λ i. pivot_entry M r c i j) ≡ sum_over R (λ i. M i j) -ℤ M r c *ℤ ((sum_over R (λ i. M i c) -ℤ bit s) *ℤ M r j)
      go false e = ap (λ xs. sum_over xs (λ i. pivot_entry M r c i j)) e ∙ shorter ∙ plain (sum_over R (λ i. M i j)) (M r c) (sum_over R (λ i. M i c)) (M r j)
      go true join =
          sum_over-one_more r R P (λ i. pivot_entry M r c i j) join ∙ ap₂ (λ (x y : ℤ). x +ℤ y) (entry_in_row j other) shorter
          ∙ more (sum_over R (λ i. M i j)) (M r c) (sum_over R (λ i. M i c)) (M r j)

  pivot_column_sum : (s : Bool) (R P : List ℕ) → IsJoined s r R P → AllByRecursion (λ i. i ≢ r) R → sum_over P (λ i. pivot_entry M r c i c) ≡ neg_ℤ (M r c *ℤ (sum_over R (λ i. M i c) -ℤ bit s))
  pivot_column_sum s R P join apart = go s join
    where
      shorter : sum_over R (λ i. pivot_entry M r c i c) ≡ neg_ℤ (M r c *ℤ sum_over R (λ i. M i c))
      shorter = same_elsewhere (pivot_entry M r c) (pivoted M r c) R (M r) apart entry_elsewhere c ∙ sum_over_pivot_column M r c R

      plain : (a g : ℤ) → neg_ℤ (a *ℤ g) ≡ neg_ℤ (a *ℤ (g -ℤ pos 0))
      plain a g = simp products (omega (arith, sums))

      more : (a g : ℤ) → a +ℤ neg_ℤ (a *ℤ g) ≡ neg_ℤ (a *ℤ (g -ℤ pos 1))
      more a g = simp products (omega (arith, sums))

      go : (s : Bool) → IsJoined s r R P → sum_over P (λ i. pivot_entry M r c i c) ≡ neg_ℤ (M r c *ℤ (sum_over R (λ i. M i c) -ℤ bit s))
      go false e = ap (λ xs. sum_over xs (λ i. pivot_entry M r c i c)) e ∙ shorter ∙ plain (M r c) (sum_over R (λ i. M i c))
      go true join = sum_over-one_more r R P (λ i. pivot_entry M r c i c) join ∙ ap₂ (λ (x y : ℤ). x +ℤ y) entry_there shorter ∙ more (M r c) (sum_over R (λ i. M i c))

  total : (s t : Bool) (R P C D : List ℕ) → IsJoined s r R P → AllByRecursion (λ i. i ≢ r) R → IsJoined t c C D → AllByRecursion (λ j. j ≢ c) C
      → sum_over P (λ i. sum_over D (pivot_entry M r c i)) ≡ sum_over R (λ i. sum_over C (M i)) -ℤ M r c *ℤ ((sum_over R (λ i. M i c) -ℤ bit s) *ℤ (sum_over C (M r) +ℤ bit t))
  total s t R P C D join apart join' others = go s join
    where
      shorter : sum_over R (λ i. sum_over D (pivot_entry M r c i)) ≡ sum_over R (λ i. sum_over C (M i)) -ℤ M r c *ℤ (sum_over R (λ i. M i c) *ℤ (sum_over C (M r) +ℤ bit t))
      shorter =
          sum_over_same R (λ i. sum_over D (pivot_entry M r c i)) (λ i. sum_over D (pivoted M r c i))
          (all_weaker (λ i. i ≢ r) (λ i. sum_over D (pivot_entry M r c i) ≡ sum_over D (pivoted M r c i))
          (λ i other. sum_over_same D (pivot_entry M r c i) (pivoted M r c i) (all_of (λ j. pivot_entry M r c i j ≡ pivoted M r c i j) (λ j. entry_elsewhere i j other) D)) R apart)
          ∙ total_after M r c t R C D join' others

      plain : (x a g h : ℤ) → x -ℤ a *ℤ (g *ℤ h) ≡ x -ℤ a *ℤ ((g -ℤ pos 0) *ℤ h)
      plain x a g h = simp products (omega (arith, sums))

      more : (x a g h : ℤ) → a *ℤ h +ℤ (x -ℤ a *ℤ (g *ℤ h)) ≡ x -ℤ a *ℤ ((g -ℤ pos 1) *ℤ h)
      more x a g h = simp products (omega (arith, sums))

      go : (s : Bool) → IsJoined s r R P
          → sum_over P (λ i. sum_over D (pivot_entry M r c i)) ≡ sum_over R (λ i. sum_over C (M i)) -ℤ M r c *ℤ ((sum_over R (λ i. M i c) -ℤ bit s) *ℤ (sum_over C (M r) +ℤ bit t))
      go false e = ap (λ xs. sum_over xs (λ i. sum_over D (pivot_entry M r c i))) e ∙ shorter ∙ plain (sum_over R (λ i. sum_over C (M i))) (M r c) (sum_over R (λ i. M i c)) (sum_over C (M r) +ℤ bit t)
      go true join =
          sum_over-one_more r R P (λ i. sum_over D (pivot_entry M r c i)) join ∙ ap₂ (λ (x y : ℤ). x +ℤ y) (row_sum t C D join' others) shorter
          ∙ more (sum_over R (λ i. sum_over C (M i))) (M r c) (sum_over R (λ i. M i c)) (sum_over C (M r) +ℤ bit t)

  even_product : (a h : ℤ) → IsSign a → IsEven (a *ℤ h) → IsEven h
  even_product a h u (k, e) = even_back M r c a h u (neg_ℤ k, omega (arith, sums))

  whole_after : (s t : Bool) (R P C D : List ℕ) → IsSign (M r c) → IsJoined s r R P → AllByRecursion (λ i. i ≢ r) R → IsJoined t c C D → AllByRecursion (λ j. j ≢ c) C
      → IsViolator (pivot_entry M r c) P D → IsViolatorAfter M r c R C (sum_over R (λ i. M i c) -ℤ bit s) (sum_over C (M r) +ℤ bit t)
  whole_after s t R P C D u join apart join' others v = record {
    rows = all_both (λ i. i ≢ r) (λ i. IsEven (sum_over D (pivot_entry M r c i))) (λ i. IsEven (sum_over C (M i) -ℤ M r c *ℤ (M i c *ℤ (sum_over C (M r) +ℤ bit t))))
        (λ i other e. subst IsEven (other_row_sum t i C D other join' others) e) R apart (all_fewer (λ i. IsEven (sum_over D (pivot_entry M r c i))) s r R P join v.even_rows);
    columns = all_both (λ j. j ≢ c) (λ j. IsEven (sum_over P (λ i. pivot_entry M r c i j))) (λ j. IsEven (sum_over R (λ i. M i j) -ℤ M r c *ℤ ((sum_over R (λ i. M i c) -ℤ bit s) *ℤ M r j)))
        (λ j other e. subst IsEven (column_sum s j R P other join apart) e) C others (all_fewer (λ j. IsEven (sum_over P (λ i. pivot_entry M r c i j))) t c C D join' v.even_columns);
    row_sum = at_row t join' v.even_columns;
    column_sum = at_column s join v.even_rows;
    total = subst IsTwoModFour (total s t R P C D join apart join' others) v.two_mod_four;
  }
    where
      added : (z : ℤ) → z ≡ z +ℤ pos 0
      added z = omega (arith, sums)

      taken : (z : ℤ) → z ≡ z -ℤ pos 0
      taken z = omega (arith, sums)

      at_row : (t : Bool) → IsJoined t c C D → AllByRecursion (λ j. IsEven (sum_over P (λ i. pivot_entry M r c i j))) D
          → (sum_over C (M r) ≡ sum_over C (M r) +ℤ bit t) ⊎ IsEven (sum_over R (λ i. M i c) -ℤ bit s)
      at_row false e all = inl (added (sum_over C (M r)))
      at_row true more all = inr (even_back M r c (M r c) (sum_over R (λ i. M i c) -ℤ bit s) u
          (subst IsEven (pivot_column_sum s R P join apart) (item_of_one_more (λ j. IsEven (sum_over P (λ i. pivot_entry M r c i j))) c C D more all)))

      at_column : (s : Bool) → IsJoined s r R P → AllByRecursion (λ i. IsEven (sum_over D (pivot_entry M r c i))) P
          → (sum_over R (λ i. M i c) ≡ sum_over R (λ i. M i c) -ℤ bit s) ⊎ IsEven (sum_over C (M r) +ℤ bit t)
      at_column false e all = inl (taken (sum_over R (λ i. M i c)))
      at_column true more all = inr (even_product (M r c) (sum_over C (M r) +ℤ bit t) u
          (subst IsEven (row_sum t C D join' others) (item_of_one_more (λ i. IsEven (sum_over D (pivot_entry M r c i))) r R P more all)))

  -- a sum with or without the pivot's entry keeps its parity if 1 or -1 replaces the entry
  sign_even : (a : ℤ) → IsSign a → IsEven (a -ℤ pos 1)
  sign_even a (inl e) = (pos 0, omega (arith, sums))
  sign_even a (inr e) = (negsuc 0, omega (arith, sums))

  apart_even : (a z w : ℤ) (k : ℤ) → a -ℤ pos 1 ≡ k +ℤ k → w ≡ a +ℤ z → IsEven (w -ℤ (z +ℤ pos 1)) × IsEven (w -ℤ (z -ℤ pos 1))
  apart_even a z w k e f = ((k, omega (arith, sums)), (k +ℤ pos 1, omega (arith, sums)))

  column_parity : (s b : Bool) (R P : List ℕ) → IsSign (M r c) → IsJoined s r R P → HasParity b (sum_over P (λ i. M i c)) → HasParity b (sum_over R (λ i. M i c) -ℤ bit s)
  column_parity false b R P u e p = subst (HasParity b) (ap (λ xs. sum_over xs (λ i. M i c)) e ∙ plain (sum_over R (λ i. M i c))) p
    where
      plain : (z : ℤ) → z ≡ z -ℤ pos 0
      plain z = omega (arith, sums)
  column_parity true b R P u join p =
      let k = sign_even (M r c) u in
      parity_by_difference b (sum_over P (λ i. M i c)) (sum_over R (λ i. M i c) -ℤ pos 1)
      (apart_even (M r c) (sum_over R (λ i. M i c)) (sum_over P (λ i. M i c)) k.0 k.1 (sum_over-one_more r R P (λ i. M i c) join)).1 p
    where
      parity_by_difference : (b : Bool) (x y : ℤ) → IsEven (x -ℤ y) → HasParity b x → HasParity b y
      parity_by_difference true x y d p = odd_by_difference x y d p
      parity_by_difference false x y d p = even_by_difference x y d p

  row_parity : (t b : Bool) (C D : List ℕ) → IsSign (M r c) → IsJoined t c C D → HasParity b (sum_over D (M r)) → HasParity b (sum_over C (M r) +ℤ bit t)
  row_parity false b C D u e p = subst (HasParity b) (ap (λ xs. sum_over xs (M r)) e ∙ plain (sum_over C (M r))) p
    where
      plain : (z : ℤ) → z ≡ z +ℤ pos 0
      plain z = omega (arith, sums)
  row_parity true b C D u join p =
      let k = sign_even (M r c) u in
      parity_by_difference b (sum_over D (M r)) (sum_over C (M r) +ℤ pos 1)
      (apart_even (M r c) (sum_over C (M r)) (sum_over D (M r)) k.0 k.1 (sum_over-one_more c C D (M r) join)).0 p
    where
      parity_by_difference : (b : Bool) (x y : ℤ) → IsEven (x -ℤ y) → HasParity b x → HasParity b y
      parity_by_difference true x y d p = odd_by_difference x y d p
      parity_by_difference false x y d p = even_by_difference x y d p

  -- the row is added if the rows have an odd sum in the column, and the column if the columns have an odd sum in the row
  pub whole_before : (s t row_in column_in : Bool) (R P C D R' C' : List ℕ) → IsSign (M r c) → IsJoined s r R P → AllByRecursion (λ i. i ≢ r) R → IsJoined t c C D → AllByRecursion (λ j. j ≢ c) C
      → HasParity row_in (sum_over P (λ i. M i c)) → HasParity column_in (sum_over D (M r)) → IsJoined row_in r R R' → IsJoined column_in c C C'
      → IsViolator (pivot_entry M r c) P D → IsViolator M R' C'
  whole_before s t row_in column_in R P C D R' C' u join apart join' others odd odd' before before' v =
      violator_before M r c u R C (sum_over R (λ i. M i c) -ℤ bit s) (sum_over C (M r) +ℤ bit t) row_in column_in R' C' (column_parity s row_in R P u join odd) (row_parity t column_in C D u join' odd') before before'
      (whole_after s t R P C D u join apart join' others v)
