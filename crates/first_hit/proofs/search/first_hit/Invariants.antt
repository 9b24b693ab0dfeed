use Rattle.std.proofs.Common.{◌-◌, ◌≤◌}
use Rattle.first_hit.specs.First.{NoneBetween}
use Rattle.first_hit.proofs.search.first_hit.Given as goal

-- no number of the rounds so far satisfies the predicate, and the next round has a row
abbrev pub invariant-loop-from : goal.invariant-loop-from
invariant-loop-from g l = record {
  below : l.from ≤ l.total;
  rows : (1 ≤ l.rows) × (l.rows ≤ 256);
  none : NoneBetween (g.P.Probe.holds l.probe) 0 l.from;
}

abbrev pub decreases-loop-from : goal.decreases-loop-from
decreases-loop-from g l = l.total - l.from
