use Rattle.std.proofs.Common.{ℕ, ◌<◌, ◌≤◌, ◌-◌}
use Rattle.camion_sign.specs.FaultLines.{HasNoFaultAt}
use Rattle.camion_sign.proofs.fault.fault_from.Given as goal

abbrev pub invariant-loop-last : goal.invariant-loop-last
invariant-loop-last l = record {
  none : (y : ℕ) → y < l.from → HasNoFaultAt l.matrix l.fn.start.row l.fn.start.column y;
  low : l.fn.start.column < l.from;
  inside : l.from ≤ l.matrix.width;
}

abbrev pub decreases-loop-last : goal.decreases-loop-last
decreases-loop-last l = l.matrix.width - l.from
