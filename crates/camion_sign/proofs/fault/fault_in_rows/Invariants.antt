use Rattle.std.proofs.Common.{ℕ, ◌<◌}
use Rattle.camion_sign.specs.FaultLines.{HasNoFaultAt}
use Rattle.camion_sign.specs.NearColumns.{HasNearRoom}
use Rattle.camion_sign.specs.Walks.{HasPlacesAndMarks}
use Rattle.camion_sign.proofs.fault.fault_in_rows.Given as goal

abbrev pub invariant-loop-row : goal.invariant-loop-row
invariant-loop-row l = record {
  fits : HasPlacesAndMarks l.matrix l.walk;
  passed : (r x y : ℕ) → r < l.row → HasNoFaultAt l.matrix r x y;
  room : HasNearRoom l.matrix l.near;
}
