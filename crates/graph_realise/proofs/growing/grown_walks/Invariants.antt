use Rattle.std.proofs.Common.{◌≡◌}
use Rattle.cmr_base.specs.GrownTrees.{walks_by}
use Rattle.graph_realise.specs.SideTables.{side_in, end_in}
use Rattle.graph_realise.proofs.growing.grown_walks.Given as goal

abbrev pub invariant-loop-column : goal.invariant-loop-column
invariant-loop-column l = l.walks ≡ walks_by (side_in l.sides) (end_in l.sides) l.order l.column
