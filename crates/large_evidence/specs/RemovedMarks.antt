-- Zero and unit lines are removed, one after another: their marks are cleared.
use Rattle.std.specs.Prelude.{◌≡◌, ℕ, ℤ, Bool, true, false, List, [], ◌∷◌, length, slice_set}
use Rattle.cmr_base.specs.declared.line.Line.{Line}
use Rattle.cmr_base.specs.declared.line.Line.TheVariants.{Row, Column}
use Rattle.cmr_base.specs.declared.line.Reason.{Reason}
use Rattle.cmr_base.specs.declared.line.Step.{Step}
use Rattle.sparse_matrix.specs.LineMarks.{is_marked}
use Rattle.sparse_matrix.specs.SparseRows.{SparseRows}
use Rattle.sparse_core.specs.Nonzeros.{HasThinReason}
use Rattle.large_evidence.specs.declared.lines_left.LinesLeft.{LinesLeft}

abbrev pub row_marks_after : List Bool → Line → List Bool
row_marks_after rows (Row row) = slice_set rows row false
row_marks_after rows (Column column) = rows

abbrev pub column_marks_after : List Bool → Line → List Bool
column_marks_after columns (Row row) = columns
column_marks_after columns (Column column) = slice_set columns column false

abbrev pub HasMark : List Bool → List Bool → Line → Type 0
HasMark rows columns (Row row) = is_marked rows row ≡ true
HasMark rows columns (Column column) = is_marked columns column ≡ true

-- a marked line has no nonzero in marked crossing lines, or one, as the reason says
abbrev pub MayBeRemoved : (ℕ → ℕ → ℤ) → List Bool → List Bool → Line → Reason → Type 0
MayBeRemoved M rows columns (Row row) reason = (is_marked rows row ≡ true) × HasThinReason (M row) columns Column reason
MayBeRemoved M rows columns (Column column) reason = (is_marked columns column ≡ true) × HasThinReason (λ row. M row column) rows Row reason

-- each step in turn is such a removal, and these marks are left at the end
abbrev pub AreRemovals : (ℕ → ℕ → ℤ) → List Bool → List Bool → List Step → (rows_left columns_left : List Bool) → Type 0
AreRemovals M rows columns [] rows_left columns_left = (rows_left ≡ rows) × (columns_left ≡ columns)
AreRemovals M rows columns (step ∷ steps) rows_left columns_left =
    MayBeRemoved M rows columns step.line step.reason × AreRemovals M (row_marks_after rows step.line) (column_marks_after columns step.line) steps rows_left columns_left

-- a mark for each line
pub record HasMarksFor (m : SparseRows) (left : LinesLeft) : Type 0 where
  pub rows : length left.rows.items ≡ length m.runs
  pub columns : length left.columns.items ≡ m.width
