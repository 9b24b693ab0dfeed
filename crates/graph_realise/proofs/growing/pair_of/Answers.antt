use Rattle.std.proofs.Common.{◌∙◌, ◌+◌, ℕ, List, ap}
use Rattle.std.proofs.lemmas.List.{take_rest}
use Rattle.cmr_base.specs.GrownTrees.{grown, node_of}
use Rattle.graph_realise.specs.Growing.{is_beyond}
use Rattle.graph_realise.proofs.OrderLemmas.{pair_here}
use Rattle.graph_realise.proofs.growing.pair_of.Goals as goal

pub returns-then-arc-row : goal.returns-then-arc-row
returns-then-arc-row c =
    let order = c.args.order.now in
    let place = c.loop-place.place in
    let l = c.loop-place-test.true in
    pair_here (is_beyond c.args.sides.now) order c.args.row place c.node_of.result l c.loop-place.invariant c.if-arc-row.true
    (c.node_of.ensures ∙ ap (λ (xs : List ℕ). node_of (grown (is_beyond c.args.sides.now) xs) (λ r. is_beyond c.args.sides.now r c.args.row)) (take_rest order (place + 1)))
