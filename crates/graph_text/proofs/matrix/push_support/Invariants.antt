use Rattle.std.proofs.Common.{◌≡◌, ◌++◌, map}
use Rattle.cmr_base.specs.LineSets.{first_lines}
use Rattle.graph_text.specs.SupportMatrix.{one_at}
use Rattle.graph_text.proofs.matrix.push_support.Given as goal

-- the cells of the row so far
abbrev pub invariant-loop-column : goal.invariant-loop-column
invariant-loop-column l = l.cells.items ≡ l.fn.cells.items ++ map (one_at l.matrix l.row) (first_lines l.column)
