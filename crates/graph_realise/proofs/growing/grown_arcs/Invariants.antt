use Rattle.std.proofs.Common.{◌≡◌}
use Rattle.cmr_base.specs.GrownTrees.{arcs_by}
use Rattle.graph_realise.specs.SideTables.{side_in, end_in}
use Rattle.graph_realise.proofs.growing.grown_arcs.Given as goal

abbrev pub invariant-loop-row : goal.invariant-loop-row
invariant-loop-row l = l.arcs ≡ arcs_by (side_in l.sides) (end_in l.sides) l.order l.row
