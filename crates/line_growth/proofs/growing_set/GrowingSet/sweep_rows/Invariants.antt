use Rattle.std.proofs.Common.{◌≤◌, ◌-◌}
use Rattle.line_growth.specs.GrowingSets.{HasSweptRows}
use Rattle.line_growth.specs.Rules.{lower_of}
use Rattle.line_growth.proofs.growing_set.GrowingSet.sweep_rows.Given as goal

abbrev pub invariant-loop-row : goal.invariant-loop-row
invariant-loop-row l = record {
  from_in : l.from ≤ l.initial.self.rows.inside.size;
  swept : HasSweptRows l.matrix (lower_of l.matrix l.rule) l.from l.initial.self l.self;
}

abbrev pub decreases-loop-row : goal.decreases-loop-row
decreases-loop-row l = l.initial.self.rows.inside.size - l.from
