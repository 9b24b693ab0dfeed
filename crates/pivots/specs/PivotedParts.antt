-- The pivot of a submatrix in its place, or a violator if the pivot has a 2 or a -2.
use Rattle.std.specs.Prelude.{◌≡◌, ◌<◌, ℕ, List, Contains}
use Rattle.std.specs.List.{AllByRecursion}
use Rattle.cmr_base.specs.declared.line_set.LineSet.{LineSet}
use Rattle.cmr_base.specs.Matrix.{Matrix, entry, IsEntry, IsMatrix}
use Rattle.cmr_base.specs.LineSets.{IsRowSet, IsColumnSet}
use Rattle.cmr_base.specs.Violator.{IsViolator}
use Rattle.cmr_base.specs.PlacedPivots.{pivot_entry, pivoted_part, IsTernaryPivot}
use Rattle.pivots.specs.declared.part_pivot.PivotedPart.{PivotedPart}
use Rattle.pivots.specs.declared.part_pivot.PivotedPart.TheVariants.{Ternary, Violated}
use Rattle.cmr_base.specs.declared.position.Position.{Position}
use Rattle.pivots.specs.ChosenLines.{two_lines}

-- rows and columns among some lines
pub record AreAmong (lines : LineSet) (chosen_rows chosen_columns : List ℕ) : Type 0 where
  pub rows : AllByRecursion (Contains lines.rows) chosen_rows
  pub columns : AllByRecursion (Contains lines.columns) chosen_columns

-- The first entry of the pivot of the submatrix, by the submatrix's rows and then by its columns, that is not -1, 0 or 1. Its lines and
-- those of the pivot are a violator of the matrix.
pub record ShowsFirstTwoIn (m : Matrix) (lines : LineSet) (place : Position) (rows columns : List ℕ) : Type 0 where
  pub other_row : ℕ
  pub other_column : ℕ
  pub row_in : Contains lines.rows other_row
  pub column_in : Contains lines.columns other_column
  pub two : ¬ (IsEntry (pivot_entry (entry m) place.row place.column other_row other_column))
  pub rows_before : (i j : ℕ) → Contains lines.rows i → Contains lines.columns j → i < other_row → IsEntry (pivot_entry (entry m) place.row place.column i j)
  pub columns_before : (j : ℕ) → Contains lines.columns j → j < other_column → IsEntry (pivot_entry (entry m) place.row place.column other_row j)
  pub rows_are : rows ≡ two_lines place.row other_row
  pub columns_are : columns ≡ two_lines place.column other_column
  pub row_set : IsRowSet m rows
  pub column_set : IsColumnSet m columns
  pub among : AreAmong lines rows columns
  pub violator : IsViolator (entry m) rows columns

-- the matrix has the pivot in the place of the submatrix
pub record IsMadePart (m : Matrix) (lines : LineSet) (place : Position) (after : Matrix) : Type 0 where
  pub ternary : IsTernaryPivot m lines place
  pub is : after ≡ pivoted_part m lines place
  pub shape : IsMatrix after

-- the answer is correct
abbrev pub IsPivotedPart : Matrix → LineSet → Position → PivotedPart → Type 0
IsPivotedPart m lines place (Ternary after) = IsMadePart m lines place after
IsPivotedPart m lines place (Violated found) = ShowsFirstTwoIn m lines place found.rows found.columns
