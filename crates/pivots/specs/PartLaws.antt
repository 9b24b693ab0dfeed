-- What the pivot of a submatrix in its place is, and what it keeps.
use Rattle.std.specs.Prelude.{◌≡◌, ◌<◌, ◌↔◌, ℕ, List, length, slice_index}
use Rattle.cmr_base.specs.declared.line_set.LineSet.{LineSet}
use Rattle.cmr_base.specs.Matrix.{Matrix, entry, IsMatrix, HasTernaryEntries}
use Rattle.cmr_base.specs.LineSets.{IsRowSet, IsColumnSet, submatrix}
use Rattle.cmr_base.specs.Signing.{IsTotallyUnimodular}
use Rattle.cmr_base.specs.Violator.{IsViolator}
use Rattle.ghouila.specs.PivotLaws.{pivot_at, AreLinesBefore}
use Rattle.cmr_base.specs.declared.position.Position.{Position}
use Rattle.cmr_base.specs.PlacedPivots.{pivoted_part, IsPlaceIn, IsTernaryPivot}
use Rattle.pivots.specs.PivotedParts.{AreAmong}

-- no violator has only lines among these
abbrev pub HasNoViolatorAmong : Matrix → LineSet → Type 0
HasNoViolatorAmong m lines = (rows columns : List ℕ) → IsRowSet m rows → IsColumnSet m columns → AreAmong lines rows columns → ¬ (IsViolator (entry m) rows columns)

-- The lines to which lines of the submatrix are mapped back are lines of the submatrix. If they were a violator after the pivot, they are
-- one before it.
abbrev pub PartPivotsTakeViolatorsBack : Type 0
PartPivotsTakeViolatorsBack = (m : Matrix) (lines : LineSet) (place : Position) (after_rows after_columns rows columns : List ℕ) → HasTernaryEntries m
    → IsRowSet m lines.rows → IsColumnSet m lines.columns → IsPlaceIn m lines place → IsRowSet m after_rows → IsColumnSet m after_columns → AreAmong lines after_rows after_columns
    → IsRowSet m rows → IsColumnSet m columns → AreLinesBefore m place.row place.column after_rows after_columns rows columns
    → AreAmong lines rows columns × (IsViolator (entry (pivoted_part m lines place)) after_rows after_columns → IsViolator (entry m) rows columns)

-- no violator is among the lines of the submatrix if and only if none is among them after the pivot, whatever entries the pivot has
abbrev pub PartPivotsKeepViolators : Type 0
PartPivotsKeepViolators = (m : Matrix) (lines : LineSet) (place : Position) → HasTernaryEntries m → IsRowSet m lines.rows → IsColumnSet m lines.columns → IsPlaceIn m lines place
    → HasNoViolatorAmong m lines ↔ HasNoViolatorAmong (pivoted_part m lines place) lines

-- the matrix after the pivot is within the limits if the entries of the pivot are -1, 0 and 1
abbrev pub PartPivotsStayMatrices : Type 0
PartPivotsStayMatrices = (m : Matrix) (lines : LineSet) (place : Position) → IsMatrix m → IsTernaryPivot m lines place → IsMatrix (pivoted_part m lines place)

-- the position in the matrix of the entry with these numbers in the submatrix
abbrev pub numbered_place : LineSet → ℕ → ℕ → Position
numbered_place lines row column = record { row = slice_index lines.rows row; column = slice_index lines.columns column }

-- on these lines the matrix after the pivot is the pivot of the submatrix as a matrix of its own
abbrev pub PartPivotsArePivots : Type 0
PartPivotsArePivots = (m : Matrix) (lines : LineSet) (row column : ℕ) → IsRowSet m lines.rows → IsColumnSet m lines.columns → row < length lines.rows → column < length lines.columns
    → submatrix (pivoted_part m lines (numbered_place lines row column)) lines.rows lines.columns ≡ pivot_at (submatrix m lines.rows lines.columns) row column

-- the submatrix is totally unimodular if and only if the entries of its pivot are -1, 0 and 1 and the pivot is totally unimodular
abbrev pub PartPivotsDecide : Type 0
PartPivotsDecide = (m : Matrix) (lines : LineSet) (place : Position) → HasTernaryEntries m → IsRowSet m lines.rows → IsColumnSet m lines.columns → IsPlaceIn m lines place
    → IsTotallyUnimodular (submatrix m lines.rows lines.columns)
    ↔ (IsTernaryPivot m lines place × IsTotallyUnimodular (submatrix (pivoted_part m lines place) lines.rows lines.columns))
