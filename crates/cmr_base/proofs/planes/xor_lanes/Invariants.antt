use Rattle.std.proofs.Common.{◌*◌}
use Rattle.cmr_base.specs.Planes.{IsXorBefore}
use Rattle.cmr_base.proofs.planes.xor_lanes.Given as goal

abbrev pub invariant-loop-lane : goal.invariant-loop-lane
invariant-loop-lane l = IsXorBefore (8 * l.lane) l.initial.into l.from l.into
