use Rattle.graph_realise.specs.SideTables.{side_in, end_in}
use Rattle.graph_realise.proofs.OrderLemmas.{arcs_more}
use Rattle.graph_realise.proofs.growing.grown_arcs.Goals as goal

pub loop-row-preserved : goal.loop-row-preserved
loop-row-preserved c =
    arcs_more (side_in c.args.sides.now) (end_in c.args.sides.now) c.args.order.now c.loop-row.row c.loop-row.arcs c.arc_of.result c.loop-row.invariant c.arc_of.ensures c.push.new.self c.in_ok-push.ensures.ok
