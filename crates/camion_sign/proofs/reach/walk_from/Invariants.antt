use Rattle.std.proofs.Common.{◌-◌}
use Rattle.camion_sign.specs.Walks.{IsGoing}
use Rattle.camion_sign.proofs.reach.walk_from.Given as goal

abbrev pub invariant-loop-head : goal.invariant-loop-head
invariant-loop-head l = IsGoing l.matrix l.values l.fn.start.row l.fn.start.column l.head l.pending l.walk

abbrev pub decreases-loop-head : goal.decreases-loop-head
decreases-loop-head l = l.matrix.width - l.head
