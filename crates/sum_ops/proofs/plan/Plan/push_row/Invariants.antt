use Rattle.std.proofs.Common.{◌≡◌, ◌++◌, map}
use Rattle.cmr_base.specs.LineSets.{first_lines}
use Rattle.sum_ops.specs.Plans.{entries_of}
use Rattle.sum_ops.proofs.plan.Plan.push_row.Given as goal

-- the entries of the row so far
abbrev pub invariant-loop-column : goal.invariant-loop-column
invariant-loop-column l = l.cells.items ≡ l.initial.cells.items ++ map (entries_of l.self l.first l.second l.row) (first_lines l.column)
