use Rattle.std.proofs.Common.{◌∙◌, sym}
use Rattle.graph_realise.specs.Growing.{is_beyond, is_past}
use Rattle.graph_realise.proofs.OrderLemmas.{node_here}
use Rattle.graph_realise.proofs.growing.node_of.Goals as goal

pub returns-then-is_past : goal.returns-then-is_past
returns-then-is_past c =
    node_here (is_beyond c.args.sides.now) c.args.order.now (is_past c.args.sides.now c.args.spot) c.loop-place.place c.loop-place-test.true c.loop-place.invariant (sym c.is_past.ensures ∙ c.if-is_past.true)
