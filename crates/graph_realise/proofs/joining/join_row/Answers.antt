use Rattle.cmr_base.specs.Trees.{support}
use Rattle.graph_realise.proofs.JoinLemmas.{row_joined}
use Rattle.graph_realise.proofs.SideLemmas.{keeps_row_trans}
use Rattle.graph_realise.proofs.joining.join_row.Goals as goal

pub returns-clause-joined : goal.returns-clause-joined
returns-clause-joined c =
    row_joined (support c.args.matrix.now) c.args.matrix.now c.args.joint.now c.args.sides.now c.clear_arc.new.sides c.add_parts_at_first.new.sides c.add_first_ends.new.sides c.requires.joint.fits c.requires.joint.off c.requires.tables
    c.clear_arc.ensures c.add_parts_at_first.ensures c.add_first_ends.ensures

pub returns-clause-others : goal.returns-clause-others
returns-clause-others c = λ r n.
    keeps_row_trans c.args.sides.now c.clear_arc.new.sides c.add_first_ends.new.sides r (c.clear_arc.ensures.others r n)
    (keeps_row_trans c.clear_arc.new.sides c.add_parts_at_first.new.sides c.add_first_ends.new.sides r (c.add_parts_at_first.ensures.others r n) (c.add_first_ends.ensures.others r n))
