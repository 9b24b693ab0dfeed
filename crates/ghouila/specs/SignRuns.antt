-- The run that signs a set of rows: it makes pivots and puts rows aside, in a fixed order. Its state is a matrix and the remaining rows.
use Rattle.std.specs.Prelude.{◌≡◌, ◌≢◌, ◌<◌, ◌↔◌, ◌==◌, if◌then◌else◌, ℕ, ℤ, pos, neg_ℤ, ◌*ℤ◌, List, [], ◌∷◌, slice_index, MatchOption}
use Rattle.std.specs.List.{AllByRecursion, remove}
use Rattle.std.specs.List.Sorted.{IsStrictlyIncreasing}
use Rattle.cmr_base.specs.Matrix.{Matrix, entry}
use Rattle.cmr_base.specs.Members.{IsIn}
use Rattle.cmr_base.specs.Sums.{sum_over, IsOdd}
use Rattle.ghouila.specs.declared.by_pivots.Pivot.{Pivot}
use Rattle.cmr_base.specs.PlacedPivots.{reduced}
use Rattle.ghouila.specs.Pivot.{IsTernaryRow, HasNoPivot, IsFirstPivot, IsFirstTwoEntry, PivotsRows}

-- the next step is a pivot at this row and column, after which these rows remain
pub record IsPivotNext (m : Matrix) (rows : List ℕ) (row column : ℕ) (left : List ℕ) : Type 0 where
  pub place : ℕ
  pub first : IsFirstPivot m rows place column
  pub row_is : row ≡ slice_index rows place
  pub left_is : left ≡ remove rows place

-- no column has a pivot, and the first remaining row is put aside
pub record IsPutAside (m : Matrix) (rows : List ℕ) (row : ℕ) (left : List ℕ) : Type 0 where
  pub no_pivot : (column : ℕ) → column < m.width → HasNoPivot m rows column
  pub rows_are : rows ≡ row ∷ left

-- the pivot gives no 2 and no -2, and it is made in the remaining rows
pub record IsPivotMade (m after : Matrix) (row column : ℕ) (left : List ℕ) : Type 0 where
  pub small : AllByRecursion (λ i. IsTernaryRow m.width (reduced (entry m) row column i)) left
  pub same_width : after.width ≡ m.width
  pub made : PivotsRows m after row column left

-- the sign of a pivot's row: -a times the signed sum of its column over the remaining rows, in the matrix before the pivot, for its entry a
abbrev pub pivot_sign : Matrix → ℕ → ℕ → List ℕ → (ℕ → ℤ) → ℤ
pivot_sign m row column left sign = neg_ℤ (entry m row column *ℤ sum_over left (λ i. sign i *ℤ entry m i column))

-- the run makes these steps until no row remains, and undoing them gives these signs: +1 for a row that was put aside
abbrev pub SignsBySteps : Matrix → List ℕ → List Pivot → (ℕ → ℤ) → Type 0
SignsBySteps m rows [] sign = rows ≡ []
SignsBySteps m rows (step ∷ steps) sign = (left : List ℕ) × MatchOption step.column
    (IsPutAside m rows step.row left × (sign step.row ≡ pos 1) × SignsBySteps m left steps sign)
    (λ column. IsPivotNext m rows step.row column left × (sign step.row ≡ pivot_sign m step.row column left sign) × ((after : Matrix) × IsPivotMade m after step.row column left × SignsBySteps after left steps sign))

-- the next pivot would give a 2 or a -2: its row and column, with the row and column of the first such entry
pub record IsFirstSquare (m : Matrix) (rows violator_rows violator_columns : List ℕ) : Type 0 where
  pub row : ℕ
  pub column : ℕ
  pub left : List ℕ
  pub next : IsPivotNext m rows row column left
  pub place : ℕ
  pub last : ℕ
  pub two : IsFirstTwoEntry m left row column place last
  pub rows_are : (i : ℕ) → IsIn i violator_rows ↔ IsIn i (row ∷ slice_index left place ∷ [])
  pub columns_are : (j : ℕ) → IsIn j violator_columns ↔ IsIn j (column ∷ last ∷ [])

-- A violator after a pivot is mapped back to one before it. The pivot's row is in it if and only if the rows after the pivot have an odd
-- sum in the pivot's column. The pivot's column is in it if and only if the columns after the pivot have an odd sum in the pivot's row, in
-- which the pivot's own column counts as 1. The lines after the pivot are sets.
pub record IsPulledBack (m : Matrix) (row column : ℕ) (after_rows after_columns rows columns : List ℕ) : Type 0 where
  pub row_set : IsStrictlyIncreasing after_rows
  pub column_set : IsStrictlyIncreasing after_columns
  pub row_there : IsIn row rows ↔ IsOdd (sum_over after_rows (λ i. entry m i column))
  pub other_rows : (i : ℕ) → i ≢ row → IsIn i rows ↔ IsIn i after_rows
  pub column_there : IsIn column columns ↔ IsOdd (sum_over after_columns (λ j. if j == column then pos 1 else entry m row j))
  pub other_columns : (j : ℕ) → j ≢ column → IsIn j columns ↔ IsIn j after_columns

-- the run makes these steps until a pivot would give a 2 or a -2, and the violator at that pivot, mapped back through the steps, has these
-- lines
abbrev pub ViolatesBySteps : Matrix → List ℕ → List Pivot → List ℕ → List ℕ → Type 0
ViolatesBySteps m rows [] violator_rows violator_columns = IsFirstSquare m rows violator_rows violator_columns
ViolatesBySteps m rows (step ∷ steps) violator_rows violator_columns = (left : List ℕ) × MatchOption step.column
    (IsPutAside m rows step.row left × ViolatesBySteps m left steps violator_rows violator_columns)
    (λ column. IsPivotNext m rows step.row column left × ((after : Matrix) × IsPivotMade m after step.row column left
    × ((after_rows : List ℕ) × (after_columns : List ℕ) × ViolatesBySteps after left steps after_rows after_columns × IsPulledBack m step.row column after_rows after_columns violator_rows violator_columns)))
