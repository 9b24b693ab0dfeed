use Rattle.std.proofs.Common.{arith, refl, to_z, of_z, w8}
use Rattle.cmr_base.proofs.TreeClimbing.{climbing_starts, first_climbs, last_climbs, climbing_ends, direction_byte}
use Rattle.cmr_base.proofs.rooted_tree.RootedTree.write_path.Goals as goal

pub loop-first-init : goal.loop-first-init
loop-first-init c =
    climbing_starts c.args.arcs.now c.args.self.now.links.items c.args.self.now.places.items c.args.walk.tail c.args.walk.head c.index-first.result.now c.index-last.result.now c.args.directions.now
    c.requires.tree c.requires.tail c.requires.head c.index-first.ensures c.index-last.ensures c.requires.zeros

pub loop-first-preserved-then-first-last : goal.loop-first-preserved-then-first-last
loop-first-preserved-then-first-last c =
    first_climbs c.args.arcs.now c.args.self.now.links.items c.args.self.now.places.items c.requires.tree.rooted c.args.walk.tail c.args.walk.head c.loop-first.first c.loop-first.last c.loop-first.directions
    c.loop-first.invariant c.index-link.result.now (to_z w8 (of_z w8 c.direction_of.result)) _ c.if-first-last.true c.index-link.ensures (direction_byte _ c.direction_of.result c.direction_of.ensures) refl

pub loop-first-preserved : goal.loop-first-preserved
loop-first-preserved c =
    last_climbs c.args.arcs.now c.args.self.now.links.items c.args.self.now.places.items c.requires.tree.rooted c.args.walk.tail c.args.walk.head c.loop-first.first c.loop-first.last c.loop-first.directions
    c.loop-first.invariant c.index-link-else-first-last.result.now (to_z w8 (of_z w8 c.direction_of-else-first-last.result)) _ (omega (arith, c.if-first-last.false, c.loop-first-test.true)) c.index-link-else-first-last.ensures
    (direction_byte _ c.direction_of-else-first-last.result c.direction_of-else-first-last.ensures) refl

pub returns-clause-path : goal.returns-clause-path
returns-clause-path c =
    climbing_ends c.args.arcs.now c.args.self.now.links.items c.args.self.now.places.items c.requires.tree.rooted c.args.walk.tail c.args.walk.head c.loop-first.first c.loop-first.last c.loop-first.directions
    c.loop-first.invariant (omega (arith, c.loop-first-test.false))
