use Rattle.std.proofs.Common.{◌≤◌, ◌-◌}
use Rattle.line_growth.specs.GrowingSets.{HasSweptColumns}
use Rattle.line_growth.specs.Rules.{upper_of}
use Rattle.line_growth.proofs.growing_set.GrowingSet.sweep_columns.Given as goal

abbrev pub invariant-loop-column : goal.invariant-loop-column
invariant-loop-column l = record {
  from_in : l.from ≤ l.initial.self.columns.inside.size;
  swept : HasSweptColumns l.matrix (upper_of l.matrix l.rule) l.from l.initial.self l.self;
}

abbrev pub decreases-loop-column : goal.decreases-loop-column
decreases-loop-column l = l.initial.self.columns.inside.size - l.from
