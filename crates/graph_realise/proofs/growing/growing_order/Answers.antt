use Rattle.std.proofs.Common.{ℕ, List, get_or, subst, arith}
use Rattle.cmr_base.specs.Matrix.{height}
use Rattle.cmr_base.specs.Trees.{support}
use Rattle.cmr_base.proofs.Members.{in_at}
use Rattle.graph_realise.specs.Growing.{IsPlaceInOrder}
use Rattle.graph_realise.specs.SideTables.{side_in, end_in}
use Rattle.graph_realise.proofs.OrderLemmas.{order_more}
use Rattle.graph_realise.proofs.growing.growing_order.Goals as goal

pub place_in-place-requires-clause-order : goal.place_in-place-requires-clause-order
place_in-place-requires-clause-order c =
    let order = c.loop-arc.order.items in
    let l = c.loop-arc-test.true in
    let e = c.rows-arc-end.ensures.rows in
    rw c.deref.ensures.value (λ k h. let q = c.loop-arc.invariant.only (get_or order k 0) (in_at order k h) in omega arith)

pub loop-arc-preserved : goal.loop-arc-preserved
loop-arc-preserved c =
    let m = c.args.matrix.now in
    let sides = c.args.sides.now in
    let order = c.loop-arc.order.items in
    let found = subst (λ (xs : List ℕ). IsPlaceInOrder sides xs c.loop-arc.arc c.place_in-place.result) c.deref.ensures.value c.place_in-place.ensures in
    let l = c.loop-arc-test.true in
    let e = c.rows-arc-end.ensures.rows in
    order_more (support m) (height m) (side_in sides) (end_in sides) c.requires.cuts order c.place_in-place.result c.loop-arc.arc (omega arith) c.loop-arc.invariant found.within found.last found.after
    c.insert.new.self.items c.in_ok-insert.ensures.items (let k = c.in_ok-insert.ensures.len in omega (arith, c.insert.new.self.ok, c.loop-arc.order.ok))
