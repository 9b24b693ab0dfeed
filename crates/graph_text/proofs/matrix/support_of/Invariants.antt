use Rattle.std.proofs.Common.{◌≡◌, map}
use Rattle.std.specs.List.{flat_map}
use Rattle.cmr_base.specs.LineSets.{first_lines}
use Rattle.graph_text.specs.SupportMatrix.{one_at}
use Rattle.graph_text.proofs.matrix.support_of.Given as goal

-- the rows so far
abbrev pub invariant-loop-row : goal.invariant-loop-row
invariant-loop-row l = l.cells.items ≡ flat_map (λ row. map (one_at l.matrix row) (first_lines l.matrix.width)) (first_lines l.row)
