use Rattle.std.proofs.Common.{◌≡◌, map}
use Rattle.std.specs.List.{flat_map}
use Rattle.cmr_base.specs.LineSets.{first_lines}
use Rattle.sum_ops.specs.Plans.{entries_of, columns_of}
use Rattle.sum_ops.proofs.plan.Plan.sum.Given as goal

-- the rows so far
abbrev pub invariant-loop-row : goal.invariant-loop-row
invariant-loop-row l = l.cells.items ≡ flat_map (λ row. map (entries_of l.self l.first l.second row) (first_lines (columns_of l.self l.second))) (first_lines l.row)
