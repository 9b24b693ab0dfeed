use Rattle.std.proofs.Common.{take}
use Rattle.cmr_base.specs.Matrix.{entry}
use Rattle.cmr_base.specs.Sums.{sum_over}
use Rattle.ghouila.specs.Found.{HasParity, marked}
use Rattle.ghouila.proofs.marked_lines.is_odd_row.Given as goal

abbrev pub invariant-loop-column : goal.invariant-loop-column
invariant-loop-column l = HasParity l.odd (sum_over (marked (take l.column l.marks)) (entry l.work l.row))
