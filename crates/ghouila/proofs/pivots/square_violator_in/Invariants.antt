use Rattle.std.proofs.Common.{◌≤◌, ◌-◌}
use Rattle.cmr_base.specs.Matrix.{entry}
use Rattle.cmr_base.specs.PlacedPivots.{reduced}
use Rattle.ghouila.specs.Pivot.{IsTernaryRow}
use Rattle.ghouila.proofs.pivots.square_violator_in.Given as goal

abbrev pub invariant-loop-last : goal.invariant-loop-last
invariant-loop-last l = record {
  inside : l.from ≤ l.work.width;
  small : IsTernaryRow l.from (reduced (entry l.work) l.row l.column l.other);
}

abbrev pub decreases-loop-last : goal.decreases-loop-last
decreases-loop-last l = l.work.width - l.from
