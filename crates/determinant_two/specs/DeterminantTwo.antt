-- Square submatrices with determinant 2 or -2.
use Rattle.std.specs.Prelude.{◌≡◌, ◌⊎◌, ℕ, ℤ, pos, negsuc, List, length, Contains}
use Rattle.std.specs.List.{AllByRecursion}
use Rattle.cmr_base.specs.Matrix.{Matrix, entry}
use Rattle.cmr_base.specs.LineSets.{IsRowSet, IsColumnSet}
use Rattle.cmr_base.specs.Determinants.{determinant}

-- 2 or -2
abbrev pub IsTwo : ℤ → Type 0
IsTwo z = (z ≡ pos 2) ⊎ (z ≡ negsuc 1)

-- a square submatrix with determinant 2 or -2, on some of these rows and columns
pub record HasDeterminantTwo (m : Matrix) (rows columns : List ℕ) : Type 0 where
  pub minor_rows : List ℕ
  pub minor_columns : List ℕ
  pub row_set : IsRowSet m minor_rows
  pub column_set : IsColumnSet m minor_columns
  pub rows_among : AllByRecursion (Contains rows) minor_rows
  pub columns_among : AllByRecursion (Contains columns) minor_columns
  pub square : length minor_rows ≡ length minor_columns
  pub two : IsTwo (determinant (entry m) minor_rows minor_columns)

-- no square submatrix has determinant 2 or -2
abbrev pub HasNoDeterminantTwo : Matrix → Type 0
HasNoDeterminantTwo m = (rows columns : List ℕ) → IsRowSet m rows → IsColumnSet m columns → length rows ≡ length columns → ¬ (IsTwo (determinant (entry m) rows columns))
