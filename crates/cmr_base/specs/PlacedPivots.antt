-- The pivot of a matrix, and of a submatrix in its place: the matrix in which the submatrix on some lines is replaced by its pivot.
use Rattle.std.specs.Prelude.{◌≢◌, ◌&&◌, ◌==◌, ◌-ℤ◌, ◌*ℤ◌, if◌then◌else◌, neg_ℤ, ℕ, ℤ, pos, Contains}
use Rattle.cmr_base.specs.declared.line.Line.TheVariants.{Row, Column}
use Rattle.cmr_base.specs.declared.line_set.LineSet.{LineSet}
use Rattle.cmr_base.specs.declared.position.Position.{Position}
use Rattle.cmr_base.specs.Matrix.{Matrix, height, entry, IsEntry}
use Rattle.cmr_base.specs.MatrixSums.{filled}
use Rattle.cmr_base.specs.Separations.{listed}

-- an entry after the pivot at a row and a column, outside the pivot's column
abbrev pub reduced : (ℕ → ℕ → ℤ) → ℕ → ℕ → ℕ → ℕ → ℤ
reduced M row column i j = M i j -ℤ M row column *ℤ (M i column *ℤ M row j)

-- the matrix after the pivot, without the pivot's row; the entries of the pivot's column are negated
abbrev pub pivoted : (ℕ → ℕ → ℤ) → ℕ → ℕ → ℕ → ℕ → ℤ
pivoted M row column i j = if j == column then neg_ℤ (M row column *ℤ M i column) else reduced M row column i j

-- An entry after the pivot at a row and a column. Outside that row it is the entry of `pivoted`. The row is multiplied by the pivot's
-- entry, and that entry does not change.
abbrev pub pivot_entry : (ℕ → ℕ → ℤ) → ℕ → ℕ → ℕ → ℕ → ℤ
pivot_entry M row column i j =
    if i == row then (if j == column then M row column else M row column *ℤ M row j) else pivoted M row column i j

-- an entry of the matrix in which the submatrix on some lines is replaced by its pivot
abbrev pub replaced_entry : Matrix → LineSet → Position → ℕ → ℕ → ℤ
replaced_entry m lines place i j =
    if listed lines.rows lines.columns (Row i) && listed lines.rows lines.columns (Column j) then pivot_entry (entry m) place.row place.column i j else entry m i j

-- the matrix of the same size in which the submatrix on some lines is replaced by its pivot; all other entries stay
abbrev pub pivoted_part : Matrix → LineSet → Position → Matrix
pivoted_part m lines place = filled (height m) m.width (replaced_entry m lines place)

-- a row and a column of these lines, which cross in a nonzero
pub record IsPlaceIn (m : Matrix) (lines : LineSet) (place : Position) : Type 0 where
  pub row : Contains lines.rows place.row
  pub column : Contains lines.columns place.column
  pub nonzero : entry m place.row place.column ≢ pos 0

-- the pivot of the submatrix has no 2 and no -2
abbrev pub IsTernaryPivot : Matrix → LineSet → Position → Type 0
IsTernaryPivot m lines place = (i j : ℕ) → Contains lines.rows i → Contains lines.columns j → IsEntry (pivot_entry (entry m) place.row place.column i j)
