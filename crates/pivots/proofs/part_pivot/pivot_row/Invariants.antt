use Rattle.pivots.proofs.PivotedRows.{IsRowPivotedTo}
use Rattle.pivots.proofs.part_pivot.pivot_row.Given as goal

abbrev pub invariant-loop-column : goal.invariant-loop-column
invariant-loop-column l = IsRowPivotedTo l.matrix l.initial.work l.work l.columns l.place l.row l.column-index
