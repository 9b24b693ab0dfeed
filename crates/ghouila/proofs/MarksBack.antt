-- A marked violator on some rows, with one row more.
use Rattle.std.proofs.Common.{◌≡◌, ◌≢◌, ◌<◌, ◌∙◌, inl, inr, ℕ, Bool, true, false, nat_eq, ℤ, pos, negsuc, neg_ℤ, ◌+ℤ◌, ◌*ℤ◌, ◌-ℤ◌, List, ◌∷◌, length, get_or, set, refl, ap, sym, subst, arith}
use Rattle.std.specs.List.{AllByRecursion, Contains}
use Rattle.std.specs.Prelude.{◌↔◌, ◌==◌, if◌then◌else◌}
use mathlib.Core.Path.{ap₂}
use Rattle.std.proofs.lemmas.Bool.{cases_eq, false≢true}
use Rattle.std.proofs.lemmas.Bool.Decides.{nat_tests}
use Rattle.std.proofs.lemmas.List.{get_or-set_same, get_or-set_other, length-set}
use Rattle.cmr_base.specs.Matrix.{Matrix, height, entry}
use Rattle.cmr_base.specs.Signing.{IsSign}
use Rattle.cmr_base.specs.Sums.{sum_over, IsEven, IsOdd}
use Rattle.cmr_base.specs.Members.{IsIn}
use Rattle.cmr_base.proofs.Parity.{even_not_odd}
use Rattle.cmr_base.specs.Violator.{IsViolator}
use Rattle.cmr_base.proofs.Integers.{sums, products}
use Rattle.cmr_base.proofs.SumLaws.{sum_over_same}
use Rattle.cmr_base.proofs.Lists.{IsJoined, all_weaker, all_contained, contains_first, contains_later, sum_over-one_more}
use Rattle.cmr_base.proofs.IncreasingLists.{increasing_below, increases_along}
use Rattle.cmr_base.proofs.ViolatorLemmas.{violator_same}
use Rattle.cmr_base.specs.PlacedPivots.{pivoted}
use Rattle.ghouila.specs.Pivot.{IsOutside, PivotsRows}
use Rattle.ghouila.specs.Found.{HasParity, marked, MarksViolator, MarksAgain}
use Rattle.ghouila.proofs.PivotSums.{sum_over_column, sum_over_pivot_column}
use Rattle.ghouila.proofs.PivotBack.{IsViolatorAfter, violator_after, violator_before, sign_and_odd}
use Rattle.ghouila.specs.SignRuns.{IsPulledBack}
use Rattle.ghouila.proofs.MarkedMembers.{iff_then, in_set_same, in_set_other}
use Rattle.ghouila.proofs.Marks.{joined, all_marked, marked_increases, unmarked_apart, set_unmarked, set_same_mark}
use Rattle.cmr_base.specs.Cuts.{bit}

-- the violator of more rows
pub marks_among_more : (m : Matrix) (rows more : List ℕ) (row_marks column_marks odd : List Bool) → ((row : ℕ) → Contains rows row → Contains more row)
    → MarksViolator m rows row_marks column_marks odd → MarksViolator m more row_marks column_marks odd
marks_among_more m rows more row_marks column_marks odd wider v = record {
  row_each = v.row_each;
  column_each = v.column_each;
  odd_each = v.odd_each;
  among = λ row is. wider row (v.among row is);
  violator = v.violator;
  parity = v.parity;
}

unmarked_outside : (marks : List Bool) (rows : List ℕ) (row : ℕ) → IsOutside row rows → ((row : ℕ) → get_or marks row false ≡ true → Contains rows row) → get_or marks row false ≡ false
unmarked_outside marks rows row out among = go (get_or marks row false) refl
  where
    go : (b : Bool) → get_or marks row false ≡ b → get_or marks row false ≡ false
    go true e = absurd (all_contained (λ r. r ≢ row) rows row out (among row e) refl)
    go false e = e

parity_by_sign : (odd : Bool) (a g : ℤ) → IsSign a → HasParity odd (neg_ℤ (a *ℤ g)) → HasParity odd g
parity_by_sign true a g (inl e) (k, f) = (pos 1 -ℤ k, plain g k (ap (λ x. neg_ℤ (x *ℤ g) +ℤ pos 1) (sym e) ∙ f))
  where
    plain : (g k : ℤ) → neg_ℤ (pos 1 *ℤ g) +ℤ pos 1 ≡ k +ℤ k → g +ℤ pos 1 ≡ (pos 1 -ℤ k) +ℤ (pos 1 -ℤ k)
    plain g k f = let one : pos 1 *ℤ g ≡ g = simp products in omega (arith, sums)
parity_by_sign true a g (inr e) (k, f) = (k, plain g k (ap (λ x. neg_ℤ (x *ℤ g) +ℤ pos 1) (sym e) ∙ f))
  where
    plain : (g k : ℤ) → neg_ℤ (negsuc 0 *ℤ g) +ℤ pos 1 ≡ k +ℤ k → g +ℤ pos 1 ≡ k +ℤ k
    plain g k f = let one : negsuc 0 *ℤ g ≡ neg_ℤ g = simp products in omega (arith, sums)
parity_by_sign false a g (inl e) (k, f) = (neg_ℤ k, plain g k (ap (λ x. neg_ℤ (x *ℤ g)) (sym e) ∙ f))
  where
    plain : (g k : ℤ) → neg_ℤ (pos 1 *ℤ g) ≡ k +ℤ k → g ≡ neg_ℤ k +ℤ neg_ℤ k
    plain g k f = let one : pos 1 *ℤ g ≡ g = simp products in omega (arith, sums)
parity_by_sign false a g (inr e) (k, f) = (k, plain g k (ap (λ x. neg_ℤ (x *ℤ g)) (sym e) ∙ f))
  where
    plain : (g k : ℤ) → neg_ℤ (negsuc 0 *ℤ g) ≡ k +ℤ k → g ≡ k +ℤ k
    plain g k f = let one : negsuc 0 *ℤ g ≡ neg_ℤ g = simp products in omega (arith, sums)

parity_by_difference : (odd : Bool) (a b : ℤ) → IsEven (a -ℤ b) → HasParity odd a → HasParity odd b
parity_by_difference true a b (k, e) (l, f) = (l -ℤ k, omega (arith, sums))
parity_by_difference false a b (k, e) (l, f) = (l -ℤ k, omega (arith, sums))

-- a column before the pivot, with the pivot's row if the pivot column's sum is odd, has a sum of the same parity as after the pivot
column_parity : (odd odd' : Bool) (a g q y : ℤ) → IsSign a → HasParity odd g → HasParity odd' (y -ℤ a *ℤ (g *ℤ q)) → HasParity odd' (bit odd *ℤ q +ℤ y)
column_parity true odd' a g q y u (k, e) p = parity_by_difference odd' (y -ℤ a *ℤ (g *ℤ q)) (bit true *ℤ q +ℤ y) (go u) p
  where
    go : IsSign a → IsEven ((y -ℤ a *ℤ (g *ℤ q)) -ℤ (bit true *ℤ q +ℤ y))
    go (inl f) = (neg_ℤ (k *ℤ q), rw f (plain y g q k e))
      where
        plain : (y g q k : ℤ) → g +ℤ pos 1 ≡ k +ℤ k → (y -ℤ pos 1 *ℤ (g *ℤ q)) -ℤ (pos 1 *ℤ q +ℤ y) ≡ neg_ℤ (k *ℤ q) +ℤ neg_ℤ (k *ℤ q)
        plain y g q k e = let h : (g +ℤ pos 1) *ℤ q ≡ (k +ℤ k) *ℤ q = ap (λ z. z *ℤ q) e in let h' = simp products at h in simp products (omega (arith, sums))
    go (inr f) = ((k -ℤ pos 1) *ℤ q, rw f (plain y g q k e))
      where
        plain : (y g q k : ℤ) → g +ℤ pos 1 ≡ k +ℤ k → (y -ℤ negsuc 0 *ℤ (g *ℤ q)) -ℤ (pos 1 *ℤ q +ℤ y) ≡ (k -ℤ pos 1) *ℤ q +ℤ (k -ℤ pos 1) *ℤ q
        plain y g q k e = let h : (g +ℤ pos 1) *ℤ q ≡ (k +ℤ k) *ℤ q = ap (λ z. z *ℤ q) e in let h' = simp products at h in simp products (omega (arith, sums))
column_parity false odd' a g q y u (k, e) p = parity_by_difference odd' (y -ℤ a *ℤ (g *ℤ q)) (bit false *ℤ q +ℤ y) (neg_ℤ (a *ℤ (k *ℤ q)), rw e (plain y a q k)) p
  where
    plain : (y a q k : ℤ) → (y -ℤ a *ℤ ((k +ℤ k) *ℤ q)) -ℤ (pos 0 *ℤ q +ℤ y) ≡ neg_ℤ (a *ℤ (k *ℤ q)) +ℤ neg_ℤ (a *ℤ (k *ℤ q))
    plain y a q k = simp products (omega (arith, sums))

sum_joined : (odd : Bool) (row : ℕ) (fewer more : List ℕ) (f : ℕ → ℤ) → IsJoined odd row fewer more → bit odd *ℤ f row +ℤ sum_over fewer f ≡ sum_over more f
sum_joined true row fewer more f join = one (f row) (sum_over fewer f) ∙ sym (sum_over-one_more row fewer more f join)
  where
    one : (x y : ℤ) → pos 1 *ℤ x +ℤ y ≡ x +ℤ y
    one x y = simp products
sum_joined false row fewer more f join = none (f row) (sum_over fewer f) ∙ sym (ap (λ xs. sum_over xs f) join)
  where
    none : (x y : ℤ) → pos 0 *ℤ x +ℤ y ≡ y
    none x y = simp products (omega (arith, sums))

one_there : (column : ℕ) (f : ℕ → ℤ) → (if column == column then pos 1 else f column) ≡ pos 1
one_there column f = rw (same column) refl
  where
    same : (c : ℕ) → nat_eq c c ≡ true
    same c = grind (arith, nat_tests)

other_there : (column : ℕ) (f : ℕ → ℤ) (j : ℕ) → j ≢ column → (if j == column then pos 1 else f j) ≡ f j
other_there column f j h = rw (apart j column h) refl
  where
    apart : (j c : ℕ) → j ≢ c → nat_eq j c ≡ false
    apart j c h = grind (arith, nat_tests)

parity_odd : (odd : Bool) (z : ℤ) → HasParity odd z → (odd ≡ true) ↔ IsOdd z
parity_odd true z p = (λ e. p, λ q. refl)
parity_odd false z p = (λ e. absurd (false≢true e), λ q. absurd (even_not_odd z p q))

-- the violator before a pivot
module _ (before after : Matrix) (row column : ℕ) (left : List ℕ) (row_in : row < height before) (column_in : column < before.width) (out : IsOutside row left) (u : IsSign (entry before row column))
    (same_height : height after ≡ height before) (same_width : after.width ≡ before.width) (pivots : PivotsRows before after row column left)
    (rows columns odd columns' : List Bool) (v : MarksViolator after left rows columns odd) (again : MarksAgain (entry before row) column columns columns') where
  abbrev g_odd : Bool
  g_odd = get_or odd column false

  rows_pivoted : AllByRecursion (λ r. (j : ℕ) → j < before.width → entry after r j ≡ pivoted (entry before) row column r j) (marked rows)
  rows_pivoted = all_marked (λ r. (j : ℕ) → j < before.width → entry after r j ≡ pivoted (entry before) row column r j) 0 rows
      (λ k n e is. all_contained (λ r. (j : ℕ) → j < before.width → entry after r j ≡ pivoted (entry before) row column r j) left n pivots (v.among n (subst (λ i. get_or rows i false ≡ true) (let i : k ≡ n = omega arith in i) is)))

  columns_inside : AllByRecursion (λ j. j < before.width) (marked columns)
  columns_inside = increasing_below 0 before.width (marked columns) (marked_increases 0 before.width columns (let w = v.column_each in omega arith))

  column_sum : (j : ℕ) → j < before.width → sum_over (marked rows) (λ r. entry after r j) ≡ sum_over (marked rows) (λ r. pivoted (entry before) row column r j)
  column_sum j h = sum_over_same (marked rows) (λ r. entry after r j) (λ r. pivoted (entry before) row column r j)
      (all_weaker (λ r. (j : ℕ) → j < before.width → entry after r j ≡ pivoted (entry before) row column r j) (λ r. entry after r j ≡ pivoted (entry before) row column r j) (λ r is. is j h) (marked rows) rows_pivoted)

  after_pivot : IsViolatorAfter (entry before) row column (marked rows) (marked (set columns column false)) (sum_over (marked rows) (λ r. entry before r column))
      (sum_over (marked (set columns column false)) (entry before row) +ℤ bit (get_or columns column false))
  after_pivot = violator_after (entry before) row column (get_or columns column false) (marked rows) (marked (set columns column false)) (marked columns) u
      (subst (λ marks. IsJoined (get_or columns column false) column (marked (set columns column false)) (marked marks)) (set_same_mark columns column) (joined (get_or columns column false) columns column (let w = v.column_each in omega arith)))
      (unmarked_apart 0 columns column column (omega arith))
      (violator_same (entry after) (pivoted (entry before) row column) (marked rows) (marked columns)
      (all_weaker (λ r. (j : ℕ) → j < before.width → entry after r j ≡ pivoted (entry before) row column r j) (λ r. AllByRecursion (λ j. entry after r j ≡ pivoted (entry before) row column r j) (marked columns))
      (λ r is. all_weaker (λ j. j < before.width) (λ j. entry after r j ≡ pivoted (entry before) row column r j) is (marked columns) columns_inside) (marked rows) rows_pivoted)
      v.violator)

  row_joined : IsJoined g_odd row (marked rows) (marked (set rows row g_odd))
  row_joined = subst (λ marks. IsJoined g_odd row (marked marks) (marked (set rows row g_odd))) (set_unmarked rows row (unmarked_outside rows left row out v.among))
      (joined g_odd rows row (let h = v.row_each in omega arith))

  g_parity : HasParity g_odd (sum_over (marked rows) (λ r. entry before r column))
  g_parity = parity_by_sign g_odd (entry before row column) (sum_over (marked rows) (λ r. entry before r column)) u
      (subst (HasParity g_odd) (column_sum column column_in ∙ sum_over_pivot_column (entry before) row column (marked rows)) (v.parity column (omega arith)))

  violator_there : IsViolator (entry before) (marked (set rows row g_odd)) (marked columns')
  violator_there = violator_before (entry before) row column u (marked rows) (marked (set columns column false)) (sum_over (marked rows) (λ r. entry before r column))
      (sum_over (marked (set columns column false)) (entry before row) +ℤ bit (get_or columns column false)) g_odd again.mark (marked (set rows row g_odd)) (marked columns')
      g_parity again.parity row_joined
      (subst (λ marks. IsJoined again.mark column (marked (set columns column false)) (marked marks)) (sym again.new_is) (joined again.mark columns column (let w = v.column_each in omega arith))) after_pivot

  pivot_column_even : (b : Bool) → HasParity b (sum_over (marked rows) (λ r. entry before r column))
      → IsJoined b row (marked rows) (marked (set rows row g_odd)) → IsEven (sum_over (marked (set rows row g_odd)) (λ r. entry before r column))
  pivot_column_even true p join = subst IsEven (sym (sum_over-one_more row (marked rows) (marked (set rows row g_odd)) (λ r. entry before r column) join)) (sign_and_odd (entry before row column) (sum_over (marked rows) (λ r. entry before r column)) u p)
  pivot_column_even false p join = subst IsEven (sym (ap (λ xs. sum_over xs (λ r. entry before r column)) join)) p

  pub marks_before_pivot : MarksViolator before (row ∷ left) (set rows row g_odd) columns' (set odd column false)
  marks_before_pivot = record {
    row_each = length-set rows row g_odd ∙ v.row_each ∙ same_height;
    column_each = ap length again.new_is ∙ length-set columns column again.mark ∙ v.column_each ∙ same_width;
    odd_each = length-set odd column false ∙ v.odd_each ∙ same_width;
    among = λ n is. elim (cases_eq n row) [
      | inl e ↦ subst (Contains (row ∷ left)) (sym e) (contains_first row left)
      | inr other ↦ contains_later n row left (v.among n (sym (get_or-set_other rows row n g_odd false other) ∙ is))
    ];
    violator = violator_there;
    parity = λ j h. elim (cases_eq j column) [
      | inl e ↦ subst (λ k. HasParity (get_or (set odd column false) k false) (sum_over (marked (set rows row g_odd)) (λ r. entry before r k))) (sym e)
          (subst (λ b. HasParity b (sum_over (marked (set rows row g_odd)) (λ r. entry before r column))) (sym (get_or-set_same odd column false false (let w = v.odd_each in omega arith))) (pivot_column_even g_odd g_parity row_joined))
      | inr other ↦ subst (λ b. HasParity b (sum_over (marked (set rows row g_odd)) (λ r. entry before r j))) (sym (get_or-set_other odd column j false false other))
          (subst (HasParity (get_or odd j false)) (sum_joined g_odd row (marked rows) (marked (set rows row g_odd)) (λ r. entry before r j) row_joined)
          (column_parity g_odd (get_or odd j false) (entry before row column) (sum_over (marked rows) (λ r. entry before r column)) (entry before row j) (sum_over (marked rows) (λ r. entry before r j)) u g_parity
          (subst (HasParity (get_or odd j false)) (column_sum j h ∙ sum_over_column (entry before) row column j (marked rows) other) (v.parity j (omega arith)))))
    ];
  }

  counted : sum_over (marked columns) (λ j. if j == column then pos 1 else entry before row j) ≡ sum_over (marked (set columns column false)) (entry before row) +ℤ bit (get_or columns column false)
  counted =
      sym (sum_joined (get_or columns column false) column (marked (set columns column false)) (marked columns) (λ j. if j == column then pos 1 else entry before row j)
      (subst (λ marks. IsJoined (get_or columns column false) column (marked (set columns column false)) (marked marks)) (set_same_mark columns column) (joined (get_or columns column false) columns column (let w = v.column_each in omega arith))))
      ∙ ap₂ (λ (a b : ℤ). bit (get_or columns column false) *ℤ a +ℤ b) (one_there column (entry before row))
      (sum_over_same (marked (set columns column false)) (λ j. if j == column then pos 1 else entry before row j) (entry before row)
      (all_weaker (λ j. j ≢ column) (λ j. (if j == column then pos 1 else entry before row j) ≡ entry before row j) (other_there column (entry before row)) (marked (set columns column false)) (unmarked_apart 0 columns column column (omega arith))))
      ∙ turned (bit (get_or columns column false)) (sum_over (marked (set columns column false)) (entry before row))
    where
      turned : (x y : ℤ) → x *ℤ pos 1 +ℤ y ≡ y +ℤ x
      turned x y = simp products (omega (arith, sums))

  pub pulled_back : IsPulledBack before row column (marked rows) (marked columns) (marked (set rows row g_odd)) (marked columns')
  pulled_back = record {
    row_set = increases_along 0 (height after) (marked rows) (marked_increases 0 (height after) rows (let h = v.row_each in omega arith));
    column_set = increases_along 0 after.width (marked columns) (marked_increases 0 after.width columns (let w = v.column_each in omega arith));
    row_there = iff_then (in_set_same rows row g_odd (let h = v.row_each in omega arith)) (parity_odd g_odd (sum_over (marked rows) (λ r. entry before r column)) g_parity);
    other_rows = λ i apart. in_set_other rows row i g_odd apart;
    column_there = subst (λ marks. IsIn column (marked marks) ↔ IsOdd (sum_over (marked columns) (λ j. if j == column then pos 1 else entry before row j))) (sym again.new_is)
        (iff_then (in_set_same columns column again.mark (let w = v.column_each in omega arith))
        (parity_odd again.mark (sum_over (marked columns) (λ j. if j == column then pos 1 else entry before row j)) (subst (HasParity again.mark) (sym counted) again.parity)));
    other_columns = λ j apart. subst (λ marks. IsIn j (marked marks) ↔ IsIn j (marked columns)) (sym again.new_is) (in_set_other columns column j again.mark apart);
  }
