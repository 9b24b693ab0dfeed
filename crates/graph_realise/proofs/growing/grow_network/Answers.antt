use Rattle.std.proofs.Common.{◌≡◌, ◌∙◌, ℕ, Bool, List, get_or, ap, arith}
use Rattle.cmr_base.specs.GrownTrees.{arcs_by, walks_by}
use Rattle.cmr_base.specs.LineSets.{AllBelow}
use Rattle.cmr_base.specs.Matrix.{height}
use Rattle.cmr_base.specs.Trees.{support}
use Rattle.cmr_base.proofs.CutTrees.{cuts_realise_support}
use Rattle.cmr_base.proofs.Members.{in_at}
use Rattle.graph_realise.specs.Growing.{is_beyond}
use Rattle.graph_realise.specs.Orders.{IsGrowingOrder}
use Rattle.graph_realise.specs.SideTables.{side_in, end_in}
use Rattle.graph_realise.proofs.OrderLemmas.{order_of}
use Rattle.graph_realise.proofs.growing.grow_network.Goals as goal

order_below : (beyond : ℕ → ℕ → Bool) (m : ℕ) (order : List ℕ) → IsGrowingOrder beyond m order → AllBelow m order
order_below beyond m order so k h = so.only (get_or order k 0) (in_at order k h)

pub grown_arcs-requires-clause-order : goal.grown_arcs-requires-clause-order
grown_arcs-requires-clause-order c = rw c.deref-3.ensures.value (order_below (is_beyond c.args.sides.now) (height c.args.matrix.now) c.in_ok-order.order.items c.in_ok-order.ensures)

pub grown_arcs-requires-clause-few : goal.grown_arcs-requires-clause-few
grown_arcs-requires-clause-few c = rw c.deref-3.ensures.value (let e = c.in_ok-order.ensures.many in let k = c.in_ok-near.ensures.shape.height_in in omega arith)

pub grown_walks-requires-clause-order : goal.grown_walks-requires-clause-order
grown_walks-requires-clause-order c = rw c.deref-5.ensures.value (order_below (is_beyond c.args.sides.now) (height c.args.matrix.now) c.in_ok-order.order.items c.in_ok-order.ensures)

pub grown_walks-requires-clause-few : goal.grown_walks-requires-clause-few
grown_walks-requires-clause-few c = rw c.deref-5.ensures.value (let e = c.in_ok-order.ensures.many in let k = c.in_ok-near.ensures.shape.height_in in omega arith)

pub returns : goal.returns
returns c =
    let m = c.args.matrix.now in
    let sides = c.args.sides.now in
    let order = c.in_ok-order.order.items in
    let arcs : c.in_ok-grown_arcs.field-0 ≡ arcs_by (side_in sides) (end_in sides) order (height m) = c.in_ok-grown_arcs.ensures ∙ ap (λ (xs : List ℕ). arcs_by (side_in sides) (end_in sides) xs (height m)) c.deref-3.ensures.value in
    let walks : c.in_ok-grown_walks.field-0 ≡ walks_by (side_in sides) (end_in sides) order m.width = c.in_ok-grown_walks.ensures ∙ ap (λ (xs : List ℕ). walks_by (side_in sides) (end_in sides) xs m.width) c.deref-5.ensures.value in
    rw (arcs, walks) (cuts_realise_support (support m) (height m) (side_in sides) (end_in sides) c.requires.cuts order (order_of (is_beyond sides) (height m) order c.in_ok-order.ensures) m.width)
