use Rattle.graph_realise.specs.SideTables.{side_in, end_in}
use Rattle.graph_realise.proofs.OrderLemmas.{walks_more}
use Rattle.graph_realise.proofs.growing.grown_walks.Goals as goal

pub loop-column-preserved : goal.loop-column-preserved
loop-column-preserved c =
    walks_more (side_in c.args.sides.now) (end_in c.args.sides.now) c.args.order.now c.loop-column.column c.loop-column.walks c.node_of.result c.node_of-in-loop-column.result c.loop-column.invariant c.node_of.ensures
    c.node_of-in-loop-column.ensures c.push.new.self c.in_ok-push.ensures.ok
