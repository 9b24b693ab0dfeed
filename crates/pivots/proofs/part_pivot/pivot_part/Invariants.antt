use Rattle.pivots.proofs.PivotedRows.{ArePivotedTo}
use Rattle.pivots.proofs.part_pivot.pivot_part.Given as goal

abbrev pub invariant-loop-row : goal.invariant-loop-row
invariant-loop-row l = ArePivotedTo l.matrix l.work l.lines l.place l.row-index
