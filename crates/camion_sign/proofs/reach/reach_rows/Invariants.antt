use Rattle.std.proofs.Common.{◌-◌}
use Rattle.camion_sign.specs.Walks.{IsSpreading}
use Rattle.camion_sign.proofs.reach.reach_rows.Given as goal

abbrev pub invariant-loop-row : goal.invariant-loop-row
invariant-loop-row l = IsSpreading l.matrix l.values l.fn.start.row l.fn.start.column l.head l.low l.pending l.fn.walk l.walk

abbrev pub decreases-loop-row : goal.decreases-loop-row
decreases-loop-row l = l.fn.start.row - l.low
