use Rattle.std.proofs.Common.{◌≤◌, ◌-◌}
use Rattle.cmr_base.specs.Matrix.{height}
use Rattle.network_orient.specs.FirstRows.{HasNoFaultBefore}
use Rattle.camion_sign.proofs.network_rows.passed_between.Given as goal

abbrev pub invariant-halves : goal.invariant-halves
invariant-halves l = record {
  passed : HasNoFaultBefore l.matrix l.passed;
  inside : l.end ≤ height l.matrix;
}

abbrev pub decreases-halves : goal.decreases-halves
decreases-halves l = l.end - l.passed
