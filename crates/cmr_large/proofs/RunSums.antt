-- Sums of runs in a set of columns.
use Rattle.std.proofs.Common.{◌≡◌, ◌≢◌, ◌<◌, ◌+◌, ◌*◌, ◌^◌, ◌++◌, ◌||◌, ◌∙◌, SFits, drop, take, to_z, of_z, w8, w64, nat_eq, if◌then◌else◌, inl, inr}
use Rattle.std.proofs.Common.{ℕ, zero, suc, ℤ, pos, ◌+ℤ◌, ◌≤ℤ◌, neg_ℤ, Bool, true, false, List, [], ◌∷◌, length, get_or, refl, ap, sym, subst, arith}
use Rattle.std.proofs.lemmas.Int.{ints}
use Rattle.std.proofs.lemmas.List.{take_more}
use Rattle.std.specs.List.{AllByRecursion}
use Rattle.std.specs.List.Sorted.{IsStrictlyIncreasing}
use Rattle.cmr_base.specs.Matrix.{IsEntry, entry}
use Rattle.cmr_base.specs.LineSets.{AllBelow, submatrix_sum}
use Rattle.cmr_base.specs.Signing.{IsSign}
use Rattle.cmr_base.specs.Sums.{sum_over}
use Rattle.cmr_base.proofs.Booleans.{eq_of, two_cases}
use Rattle.cmr_base.proofs.IncreasingLists.{IncreasesIn, increases_in, increasing_apart}
use Rattle.cmr_base.proofs.Integers.{sums}
use Rattle.cmr_base.proofs.Lists.{all_at, all_of, all-take}
use Rattle.cmr_base.proofs.Parts.{length-increasing}
use Rattle.cmr_base.proofs.SumLaws.{sum_over_same, sum_over-add, sum_over-zero}
use Rattle.sparse_matrix.specs.declared.nonzero.Nonzero.{Nonzero}
use Rattle.sparse_matrix.specs.declared.nonzero.TheConstants.{MAX_SPARSE_LINES}
use Rattle.sparse_matrix.specs.SparseRows.{SparseRows, AreInDistinctLines, AreSparseRows, IsNonzeroWithin, matrix_of_runs, run_of, sparse_entry, value_in}
use Rattle.sparse_matrix.proofs.MarkedLines.{no_nonzero}
use Rattle.sparse_matrix.proofs.Matrices.{matrix_entry, matrix_is_ternary}
use Rattle.sparse_matrix.proofs.Runs.{AreSigns, first_nonzero, first_nonzero_zero, free_line, signs_within, value_in-more, value_other}
use Rattle.tree_type.specs.Sides.{is_among}

first_or : (a b : ℤ) → a ≡ pos 0 → first_nonzero a b ≡ a +ℤ b
first_or a b e = subst (λ (z : ℤ). first_nonzero z b ≡ z +ℤ b) (sym e) (omega (arith, sums))

-- one more nonzero, in a line without a value, adds its own sum
sum_more : (run : List Nonzero) (x : Nonzero) (columns : List ℕ) → AreSigns run → value_in run x.line ≡ pos 0
    → sum_over columns (value_in (run ++ x ∷ [])) ≡ sum_over columns (value_in run) +ℤ sum_over columns (value_in (x ∷ []))
sum_more run x columns signs free =
    sum_over_same columns (value_in (run ++ x ∷ [])) (λ column. value_in run column +ℤ value_in (x ∷ []) column) (all_of _ at columns)
    ∙ sum_over-add columns (value_in run) (value_in (x ∷ []))
  where
    at : (column : ℕ) → value_in (run ++ x ∷ []) column ≡ value_in run column +ℤ value_in (x ∷ []) column
    at column = value_in-more run x column signs ∙ elim (two_cases (nat_eq x.line column)) [
      | inl e ↦ first_or (value_in run column) (value_in (x ∷ []) column) (subst (λ (c : ℕ). value_in run c ≡ pos 0) (eq_of x.line column e) free)
      | inr n ↦
          let zero : value_in (x ∷ []) column ≡ pos 0 = ap (λ (b : Bool). if b then x.value else pos 0) n in
          ap (first_nonzero (value_in run column)) zero ∙ first_nonzero_zero (value_in run column) ∙ added (value_in run column) (value_in (x ∷ []) column) zero
    ]
      where
        added : (a b : ℤ) → b ≡ pos 0 → a ≡ a +ℤ b
        added a b e = omega (arith, sums)

-- the sum of one nonzero
sum_one : (x : Nonzero) (low high : ℕ) (columns : List ℕ) → IncreasesIn low high columns → sum_over columns (value_in (x ∷ [])) ≡ (if is_among columns x.line then x.value else pos 0)
sum_one x low high [] increases = refl
sum_one x low high (column ∷ columns) increases = go (nat_eq x.line column) refl (sum_one x (column + 1) high columns increases.2)
  where
    others : x.line ≡ column → sum_over columns (value_in (x ∷ [])) ≡ pos 0
    others e = sum_over_same columns (value_in (x ∷ [])) (λ c. pos 0) (apart columns (increasing_apart (column + 1) high column columns (omega arith) increases.2)) ∙ sum_over-zero columns
      where
        apart : (cs : List ℕ) → AllByRecursion (λ c. c ≢ column) cs → AllByRecursion (λ c. value_in (x ∷ []) c ≡ pos 0) cs
        apart [] h = tt
        apart (c ∷ cs) h = (value_other x c (λ f. h.0 (sym f ∙ e)), apart cs h.1)

    go : (b : Bool) → nat_eq x.line column ≡ b → sum_over columns (value_in (x ∷ [])) ≡ (if is_among columns x.line then x.value else pos 0)
        → (if nat_eq x.line column then x.value else pos 0) +ℤ sum_over columns (value_in (x ∷ [])) ≡ (if nat_eq x.line column || is_among columns x.line then x.value else pos 0)
    go true e rest = rw (e, others (eq_of x.line column e)) (omega (arith, sums))
    go false e rest = rw (e, rest) (omega (arith, sums))

-- what a nonzero of a run adds to the sum
pub record RunStep (run : List Nonzero) (columns : List ℕ) (k : ℕ) : Type 0 where
  pub sign : IsSign (get_or run k no_nonzero).value
  pub among : is_among columns (get_or run k no_nonzero).line ≡ true
      → sum_over columns (value_in (take (k + 1) run)) ≡ sum_over columns (value_in (take k run)) +ℤ (get_or run k no_nonzero).value
  pub apart : is_among columns (get_or run k no_nonzero).line ≡ false → sum_over columns (value_in (take (k + 1) run)) ≡ sum_over columns (value_in (take k run))

module _ (width : ℕ) (run : List Nonzero) (columns : List ℕ) (k : ℕ) (below : k < length run) (within : AllByRecursion (IsNonzeroWithin width) run) (distinct : AreInDistinctLines run)
    (increasing : IsStrictlyIncreasing columns) where
  abbrev here : Nonzero
  here = get_or run k no_nonzero

  step : (b : Bool) → is_among columns here.line ≡ b → sum_over columns (value_in (take (k + 1) run)) ≡ sum_over columns (value_in (take k run)) +ℤ (if b then here.value else pos 0)
  step b e =
      ap (λ (r : List Nonzero). sum_over columns (value_in r)) (take_more run k no_nonzero below)
      ∙ sum_more (take k run) here columns (signs_within width (take k run) (all-take (IsNonzeroWithin width) k run within)) (free_line run k no_nonzero below distinct)
      ∙ ap (λ (z : ℤ). sum_over columns (value_in (take k run)) +ℤ z)
      (sum_one here 0 (bound columns) columns (increases_in 0 (bound columns) columns increasing (below_bound columns) (λ h. omega arith))
      ∙ ap (λ (c : Bool). if c then here.value else pos 0) e)
    where
      bound : List ℕ → ℕ
      bound [] = 0
      bound (c ∷ cs) = (c + 1) + bound cs

      below_bound : (cs : List ℕ) (i : ℕ) → i < length cs → get_or cs i 0 < bound cs
      below_bound [] i l = absurd (omega arith)
      below_bound (c ∷ cs) zero l = omega arith
      below_bound (c ∷ cs) (suc i) l = let later = below_bound cs i (omega (arith, l)) in omega (arith, later)

  -- one more nonzero of a run
  pub run_step : RunStep run columns k
  run_step = record {
    sign = (all_at (IsNonzeroWithin width) run k no_nonzero within below).sign;
    among = step true;
    apart = λ e. step false e ∙ omega (arith, sums);
  }

-- an i64 represents the sum of a run
pub kept_value : (old x : ℤ) (i : ℕ) → i < 2 ^ 62 → neg_ℤ (pos i) ≤ℤ old → old ≤ℤ pos i → IsSign x → to_z w64 (of_z w64 (old +ℤ to_z w64 (of_z w64 (to_z w8 (of_z w8 x))))) ≡ old +ℤ x
kept_value old x i few low high (inl e) = rw e (omega (arith, ints))
kept_value old x i few low high (inr e) = rw e (omega (arith, ints))

pub low_value : (old x : ℤ) (i : ℕ) → neg_ℤ (pos i) ≤ℤ old → IsSign x → neg_ℤ (pos (i + 1)) ≤ℤ (old +ℤ x)
low_value old x i low (inl e) = rw e (omega (arith, ints))
low_value old x i low (inr e) = rw e (omega (arith, ints))

pub high_value : (old x : ℤ) (i : ℕ) → old ≤ℤ pos i → IsSign x → (old +ℤ x) ≤ℤ pos (i + 1)
high_value old x i high (inl e) = rw e (omega (arith, ints))
high_value old x i high (inr e) = rw e (omega (arith, ints))

-- and the sum of rows
pub kept_sum : (old x : ℤ) (i : ℕ) → i < MAX_SPARSE_LINES → neg_ℤ (pos (MAX_SPARSE_LINES * i)) ≤ℤ old → old ≤ℤ pos (MAX_SPARSE_LINES * i) → neg_ℤ (pos MAX_SPARSE_LINES) ≤ℤ x
    → x ≤ℤ pos MAX_SPARSE_LINES → to_z w64 (of_z w64 (old +ℤ to_z w64 (of_z w64 x))) ≡ old +ℤ x
kept_sum old x i few low high from to = omega (arith, ints)

pub sum_fits : (old x : ℤ) (i : ℕ) → i < MAX_SPARSE_LINES → neg_ℤ (pos (MAX_SPARSE_LINES * i)) ≤ℤ old → old ≤ℤ pos (MAX_SPARSE_LINES * i) → neg_ℤ (pos MAX_SPARSE_LINES) ≤ℤ x
    → x ≤ℤ pos MAX_SPARSE_LINES → SFits w64 (old +ℤ to_z w64 (of_z w64 x))
sum_fits old x i few low high from to = omega (arith, ints)

pub lower_sum : (old x new : ℤ) (i : ℕ) → new ≡ old +ℤ x → neg_ℤ (pos (MAX_SPARSE_LINES * i)) ≤ℤ old → neg_ℤ (pos MAX_SPARSE_LINES) ≤ℤ x → neg_ℤ (pos (MAX_SPARSE_LINES * (i + 1))) ≤ℤ new
lower_sum old x new i e low from = omega (arith, ints)

pub higher_sum : (old x new : ℤ) (i : ℕ) → new ≡ old +ℤ x → old ≤ℤ pos (MAX_SPARSE_LINES * i) → x ≤ℤ pos MAX_SPARSE_LINES → new ≤ℤ pos (MAX_SPARSE_LINES * (i + 1))
higher_sum old x new i e high to = omega (arith, ints)

-- ---- bounds

pub small_sum : (f : ℕ → ℤ) → ((x : ℕ) → IsEntry (f x)) → (xs : List ℕ) → (neg_ℤ (pos (length xs)) ≤ℤ sum_over xs f) × (sum_over xs f ≤ℤ pos (length xs))
small_sum f small [] = (omega (arith, sums), omega (arith, sums))
small_sum f small (x ∷ xs) = let rest = small_sum f small xs in let low = (small x).low in let high = (small x).high in (omega (arith, sums, rest.0), omega (arith, sums, rest.1))

pub no_sum : (columns : List ℕ) → sum_over columns (value_in []) ≡ pos 0
no_sum columns = sum_over-zero columns

module _ (m : SparseRows) (shape : AreSparseRows m) (columns : List ℕ) where
  -- the sum of a row
  pub row_bounds : IsStrictlyIncreasing columns → AllBelow m.width columns → (row : ℕ)
      → (neg_ℤ (pos MAX_SPARSE_LINES) ≤ℤ sum_over columns (sparse_entry m row)) × (sum_over columns (sparse_entry m row) ≤ℤ pos MAX_SPARSE_LINES)
  row_bounds increasing below row =
      let bounds = small_sum (sparse_entry m row) (λ column. subst IsEntry (matrix_entry m shape row column) ((matrix_is_ternary m shape).small row column)) columns in
      let few = length-increasing columns m.width increasing below in
      let most = shape.columns_in in
      (omega (arith, ints, bounds.0, few, most), omega (arith, ints, bounds.1, few, most))

  pub whole_sum : (rows : List ℕ) → sum_over rows (λ row. sum_over columns (sparse_entry m row)) ≡ submatrix_sum (matrix_of_runs m) rows columns
  whole_sum rows = sum_over_same rows (λ row. sum_over columns (sparse_entry m row)) (λ row. sum_over columns (entry (matrix_of_runs m) row))
      (all_of _ (λ row. sum_over_same columns (sparse_entry m row) (entry (matrix_of_runs m) row) (all_of _ (λ column. sym (matrix_entry m shape row column)) columns)) rows)

-- the sum of the row at an index of the rows
pub record RowSum (m : SparseRows) (rows columns : List ℕ) (k : ℕ) (sum : ℤ) : Type 0 where
  pub inside : k < length rows
  pub few : k < MAX_SPARSE_LINES
  pub value : sum ≡ sum_over columns (sparse_entry m (get_or rows k 0))
  pub low : neg_ℤ (pos MAX_SPARSE_LINES) ≤ℤ sum
  pub high : sum ≤ℤ pos MAX_SPARSE_LINES

pub row_sum_is : (m : SparseRows) → AreSparseRows m → (rows columns : List ℕ) → IsStrictlyIncreasing rows → IsStrictlyIncreasing columns → AllBelow (length m.runs) rows → AllBelow m.width columns
    → (items : List ℕ) → items ≡ rows → (k : ℕ) → k < length items → (run : List Nonzero) → run ≡ run_of m (get_or items k 0) → (sum : ℤ) → sum ≡ sum_over columns (value_in run)
    → RowSum m rows columns k sum
row_sum_is m shape rows columns rows_increase columns_increase rows_below columns_below items same k below run run_is sum sum_is =
    let value : sum ≡ sum_over columns (sparse_entry m (get_or rows k 0)) =
    sum_is ∙ ap (λ (r : List Nonzero). sum_over columns (value_in r)) (run_is ∙ ap (λ (xs : List ℕ). run_of m (get_or xs k 0)) same) in
    let bounds = row_bounds m shape columns columns_increase columns_below (get_or rows k 0) in
    let inside : k < length rows = subst (λ (xs : List ℕ). k < length xs) same below in
    let short = length-increasing rows (length m.runs) rows_increase rows_below in
    let most = shape.rows_in in
    record {
      inside = inside;
      few = omega (arith, inside, short, most);
      value = value;
      low = subst (λ (z : ℤ). neg_ℤ (pos MAX_SPARSE_LINES) ≤ℤ z) (sym value) bounds.0;
      high = subst (λ (z : ℤ). z ≤ℤ pos MAX_SPARSE_LINES) (sym value) bounds.1;
    }

-- after all rows
pub sum_ends : (m : SparseRows) → AreSparseRows m → (rows columns : List ℕ) (k : ℕ) (sum : ℤ) → (k < length rows → ⊥)
    → sum +ℤ sum_over (drop k rows) (λ row. sum_over columns (sparse_entry m row)) ≡ sum_over rows (λ row. sum_over columns (sparse_entry m row)) → sum ≡ submatrix_sum (matrix_of_runs m) rows columns
sum_ends m shape rows columns k sum ended rest =
    nothing_left sum _ (ap (λ (xs : List ℕ). sum_over xs (λ row. sum_over columns (sparse_entry m row))) (drop_past rows k ended)) ∙ rest ∙ whole_sum m shape columns rows
  where
    nothing_left : (a b : ℤ) → b ≡ pos 0 → a ≡ a +ℤ b
    nothing_left a b e = omega (arith, sums)

    drop_past : (xs : List ℕ) (i : ℕ) → (i < length xs → ⊥) → drop i xs ≡ []
    drop_past [] zero h = refl
    drop_past [] (suc i) h = refl
    drop_past (x ∷ xs) zero h = absurd (h (omega arith))
    drop_past (x ∷ xs) (suc i) h = drop_past xs i (λ l. h (omega (arith, l)))
