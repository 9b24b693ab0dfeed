use Rattle.pivots.proofs.MultipliedRows.{IsMultiplied}
use Rattle.pivots.proofs.matrix_pivot.multiply_row.Given as goal

abbrev pub invariant-loop-other : goal.invariant-loop-other
invariant-loop-other l = IsMultiplied l.initial.work l.work l.row l.column l.other
