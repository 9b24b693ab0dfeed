use Rattle.std.proofs.Common.{ℕ, ◌<◌, ◌≤◌, ◌-◌}
use Rattle.camion_sign.specs.FaultLines.{HasNoFaultAt}
use Rattle.camion_sign.specs.NearColumns.{KnowsNear}
use Rattle.camion_sign.specs.Walks.{HasPlacesAndMarks}
use Rattle.camion_sign.proofs.fault.fault_of_row.Given as goal

abbrev pub invariant-loop-column : goal.invariant-loop-column
invariant-loop-column l = record {
  fits : HasPlacesAndMarks l.matrix l.walk;
  passed : (x y : ℕ) → x < l.from → HasNoFaultAt l.matrix l.row x y;
  knows : KnowsNear l.matrix l.row l.from l.near;
  inside : l.from ≤ l.matrix.width;
}

abbrev pub decreases-loop-column : goal.decreases-loop-column
decreases-loop-column l = l.matrix.width - l.from
