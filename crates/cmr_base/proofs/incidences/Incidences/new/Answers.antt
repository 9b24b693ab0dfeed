use Rattle.std.proofs.Common.{arith, refl}
use Rattle.cmr_base.proofs.IncidenceSteps.{node_inside, one_taken}
use Rattle.cmr_base.proofs.incidences.Incidences.new.Goals as goal

pub index-requires : goal.index-requires
index-requires c =
    let l = node_inside c.args.arcs.now c.args.end c.args.nodes c.loop-number.number c.of-node.result c.loop-number.last.items c.loop-number.previous.items
    c.loop-number.invariant c.requires.nodes c.loop-number-test.true c.of-node.ensures in
    omega (arith, l, c.loop-number.last.ok)

pub index_mut-requires : goal.index_mut-requires
index_mut-requires c =
    let l = node_inside c.args.arcs.now c.args.end c.args.nodes c.loop-number.number c.of-node.result c.loop-number.last.items c.loop-number.previous.items
    c.loop-number.invariant c.requires.nodes c.loop-number-test.true c.of-node.ensures in
    omega (arith, l, c.loop-number.last.ok)

pub loop-number-preserved : goal.loop-number-preserved
loop-number-preserved c =
    one_taken c.args.arcs.now c.args.end c.args.nodes c.loop-number.number c.of-node.result c.index.result.now c.loop-number.last.items c.loop-number.previous.items _ _
    c.loop-number.invariant c.of-node.ensures (c.requires.nodes c.loop-number.number c.loop-number-test.true) c.index.ensures c.in_ok-push.ensures.items refl
