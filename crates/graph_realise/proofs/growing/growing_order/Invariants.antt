use Rattle.graph_realise.specs.Growing.{is_beyond}
use Rattle.graph_realise.specs.Orders.{IsGrowingOrder}
use Rattle.graph_realise.proofs.growing.growing_order.Given as goal

abbrev pub invariant-loop-arc : goal.invariant-loop-arc
invariant-loop-arc l = IsGrowingOrder (is_beyond l.sides) l.arc l.order.items
