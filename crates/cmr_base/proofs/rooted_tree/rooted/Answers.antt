use Rattle.std.proofs.Common.{arith, refl}
use Rattle.cmr_base.proofs.RootedTreeSteps.{walked_on, no_tree, whole_tree}
use Rattle.cmr_base.proofs.rooted_tree.rooted.Goals as goal

pub returns-then-place-len : goal.returns-then-place-len
returns-then-place-len c =
    no_tree c.args.arcs.now c.args.rows c.loop-place.place c.loop-place.tree.links.items c.loop-place.tree.places.items (omega (arith, c.if-arcs-rows.false)) c.loop-place.invariant
    (omega (arith, c.if-place-len.true, c.len.ensures)) (omega (arith, c.loop-place-test.true))

pub loop-place-preserved : goal.loop-place-preserved
loop-place-preserved c =
    walked_on c.args.arcs.now c.loop-place.place c.loop-place.tree.links.items c.reach_neighbours.new.self.links.items c.reach_neighbours-in-loop-place.new.self.links.items
    c.loop-place.tree.places.items c.reach_neighbours-in-loop-place.new.self.places.items c.loop-place.invariant
    (let few = c.loop-place.invariant.few in omega (arith, few, c.if-place-len.false, c.len.ensures, c.loop-place.tree.links.ok))
    c.in_ok-reach_neighbours.ensures.longer c.in_ok-reach_neighbours-2.ensures.longer c.in_ok-reach_neighbours.ensures.reached c.in_ok-reach_neighbours-2.ensures.reached
    c.in_ok-reach_neighbours-2.ensures.rooted

pub returns : goal.returns
returns c =
    whole_tree c.args.arcs.now c.args.rows c.loop-place.tree.links.items c.loop-place.tree.places.items (omega (arith, c.if-arcs-rows.false)) (c.if-not-are_in_range.ensures.0 refl) c.loop-place.invariant.rooted
    (let few = c.loop-place.invariant.few in omega (arith, few, c.loop-place-test.false))
