use Rattle.std.proofs.Common.{arith, subst}
use Rattle.cmr_base.specs.declared.incidences.End.{End}
use Rattle.cmr_base.specs.Incidences.{end_at}
use Rattle.cmr_base.specs.RootedTrees.{HasNode}
use Rattle.cmr_base.proofs.RootedTreeSteps.{few_links, reaching_starts, reaching_goes_on, reaching_smaller}
use Rattle.cmr_base.proofs.rooted_tree.RootedTree.reach_neighbours.Goals as goal

pub loop-next-init : goal.loop-next-init
loop-next-init c =
    reaching_starts c.args.arcs.now c.args.end c.args.place c.args.self.now.links.items c.args.self.now.places.items c.args.incidences.now.last.items c.args.incidences.now.previous.items
    c.index.result.now c.index-next.result.now c.requires.rooted c.requires.incidences c.requires.place c.index.ensures c.index-next.ensures

pub overflow_cast-place : goal.overflow_cast-place
overflow_cast-place c =
    let few = few_links c.args.arcs.now c.args.self.now.links.items c.args.self.now.places.items c.requires.rooted in
    omega (arith, few, c.requires.place, c.requires.few)

pub reach-requires-clause-arc : goal.reach-requires-clause-arc
reach-requires-clause-arc c = (c.loop-next.invariant.here c.in-Some.arc c.in-Some.is).0

pub loop-next-smaller : goal.loop-next-smaller
loop-next-smaller c =
    reaching_smaller c.args.arcs.now c.args.end c.args.incidences.now.last.items c.args.incidences.now.previous.items c.loop-next.next c.in-Some.arc c.index-next-in-Some.result.now
    c.requires.incidences c.in-Some.is (c.loop-next.invariant.here c.in-Some.arc c.in-Some.is).0 c.index-next-in-Some.ensures

pub loop-next-preserved : goal.loop-next-preserved
loop-next-preserved c =
    reaching_goes_on c.args.arcs.now c.args.end c.args.place c.args.self.now.links.items c.loop-next.self.links.items c.loop-next.self.places.items
    c.args.incidences.now.last.items c.args.incidences.now.previous.items c.loop-next.next c.in-Some.arc c.reach.new.self.links.items c.reach.new.self.places.items c.index-next-in-Some.result.now
    c.loop-next.invariant c.requires.incidences c.in-Some.is c.in_ok-reach.ensures.rooted c.in_ok-reach.ensures.longer
    (subst (λ (end : End). HasNode c.reach.new.self.links.items (end_at c.args.arcs.now end c.in-Some.arc)) c.opposite.ensures c.in_ok-reach.ensures.there) c.index-next-in-Some.ensures
