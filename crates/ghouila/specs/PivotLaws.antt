-- The pivot of a whole matrix, and the properties that it keeps. In the tableau of `M x + y = b` the pivot is the step of the simplex
-- method that exchanges the row's y and the column's x.
use Rattle.std.specs.Prelude.{◌≡◌, ◌≢◌, ◌<◌, ◌↔◌, ℕ, List}
use Rattle.cmr_base.specs.Matrix.{Matrix, height, entry, HasTernaryEntries, IsRectangular, IsTernary}
use Rattle.cmr_base.specs.LineSets.{IsRowSet, IsColumnSet}
use Rattle.cmr_base.specs.MatrixSums.{filled}
use Rattle.cmr_base.specs.Members.{IsIn}
use Rattle.cmr_base.specs.Signing.{IsSign, IsTotallyUnimodular}
use Rattle.cmr_base.specs.Sums.{sum_over, IsOdd}
use Rattle.cmr_base.specs.Violator.{IsViolator, HasNoViolator}
use Rattle.cmr_base.specs.PlacedPivots.{pivot_entry}

-- the matrix after the pivot, of the same size
abbrev pub pivot_at : Matrix → ℕ → ℕ → Matrix
pivot_at m row column = filled (height m) m.width (pivot_entry (entry m) row column)

-- the position of a pivot: a sign within the sizes
pub record IsPivotPlace (m : Matrix) (row column : ℕ) : Type 0 where
  pub row_in : row < height m
  pub column_in : column < m.width
  pub nonzero : IsSign (entry m row column)

-- Lines of the matrix, from lines of its pivot: they differ at most in the pivot's lines. The pivot's row is one of them if and only if the
-- rows after the pivot have an odd sum in its column. Its column is one if and only if the columns after it have an odd sum in its row. The
-- sums are taken in the matrix before the pivot.
pub record AreLinesBefore (m : Matrix) (row column : ℕ) (after_rows after_columns rows columns : List ℕ) : Type 0 where
  pub row_there : IsIn row rows ↔ IsOdd (sum_over after_rows (λ i. entry m i column))
  pub other_rows : (i : ℕ) → i ≢ row → IsIn i rows ↔ IsIn i after_rows
  pub column_there : IsIn column columns ↔ IsOdd (sum_over after_columns (entry m row))
  pub other_columns : (j : ℕ) → j ≢ column → IsIn j columns ↔ IsIn j after_columns

-- the same pivot twice gives the matrix again
abbrev pub PivotsUndoThemselves : Type 0
PivotsUndoThemselves = (m : Matrix) (row column : ℕ) → IsRectangular m → IsPivotPlace m row column → pivot_at (pivot_at m row column) row column ≡ m

-- a violator of the pivot gives one of the matrix on these lines
abbrev pub PivotsTakeViolatorsBack : Type 0
PivotsTakeViolatorsBack = (m : Matrix) (row column : ℕ) (after_rows after_columns rows columns : List ℕ) → IsPivotPlace m row column
    → IsRowSet m after_rows → IsColumnSet m after_columns → IsRowSet m rows → IsColumnSet m columns → AreLinesBefore m row column after_rows after_columns rows columns
    → IsViolator (entry (pivot_at m row column)) after_rows after_columns → IsViolator (entry m) rows columns

-- a matrix with any entries has no violator if and only if its pivot has none
abbrev pub PivotsKeepViolators : Type 0
PivotsKeepViolators = (m : Matrix) (row column : ℕ) → IsPivotPlace m row column → HasNoViolator m ↔ HasNoViolator (pivot_at m row column)

-- a matrix is totally unimodular if and only if its pivot has only entries -1, 0 and 1 and is totally unimodular
abbrev pub PivotsDecide : Type 0
PivotsDecide = (m : Matrix) (row column : ℕ) → IsTernary m → IsPivotPlace m row column
    → IsTotallyUnimodular m ↔ (HasTernaryEntries (pivot_at m row column) × IsTotallyUnimodular (pivot_at m row column))
