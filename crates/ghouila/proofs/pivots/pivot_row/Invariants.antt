use Rattle.std.proofs.Common.{◌≤◌, ◌-◌}
use Rattle.ghouila.proofs.PivotRow.{IsReduced}
use Rattle.ghouila.proofs.pivots.pivot_row.Given as goal

abbrev pub invariant-loop-last : goal.invariant-loop-last
invariant-loop-last l = record {
  inside : l.from ≤ l.initial.work.width;
  reduced : IsReduced l.initial.work l.work l.row l.column l.other l.from;
}

abbrev pub decreases-loop-last : goal.decreases-loop-last
decreases-loop-last l = l.initial.work.width - l.from
