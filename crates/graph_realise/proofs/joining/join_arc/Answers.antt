use Rattle.std.proofs.Common.{◌∙◌, None, arith, sym}
use Rattle.std.proofs.lemmas.List.{get_or_read}
use Rattle.cmr_base.specs.Trees.{support}
use Rattle.graph_realise.proofs.JoinLemmas.{arc_joined, line_for}
use Rattle.graph_realise.proofs.SideLemmas.{keeps_row_trans}
use Rattle.graph_realise.proofs.joining.join_arc.Goals as goal

pub keep_part-requires-clause-own : goal.keep_part-requires-clause-own
keep_part-requires-clause-own c =
    sym (get_or_read c.args.joint.now.part_of.items c.args.arc c.index.result.now (let l = c.requires.arc in let e = c.requires.joint.fits.rows in omega arith) c.index.ensures None) ∙ c.in-Some.is

pub keep_part-requires-clause-line : goal.keep_part-requires-clause-line
keep_part-requires-clause-line c =
    let part = sym (get_or_read c.args.joint.now.part_of.items c.args.arc c.index.result.now (let l = c.requires.arc in let e = c.requires.joint.fits.rows in omega arith) c.index.ensures None) ∙ c.in-Some.is in
    line_for c.args.matrix.now c.args.joint.now c.args.sides.now c.args.arc c.in-Some.own c.requires.joint.fits c.requires.tables c.requires.arc (c.requires.joint.fits.row_parts c.args.arc c.in-Some.own part)

pub returns-in-Some-clause-joined : goal.returns-in-Some-clause-joined
returns-in-Some-clause-joined c =
    let part = sym (get_or_read c.args.joint.now.part_of.items c.args.arc c.index.result.now (let l = c.requires.arc in let e = c.requires.joint.fits.rows in omega arith) c.index.ensures None) ∙ c.in-Some.is in
    arc_joined (support c.args.matrix.now) c.args.joint.now c.args.arc c.in-Some.own c.args.matrix.now c.get-is_reversed.result c.args.sides.now c.keep_part.new.sides c.add_hung.new.sides c.add_used.new.sides
    c.requires.other part c.get-is_reversed.ensures c.requires.joint.fits c.requires.joint.off c.requires.tables (c.requires.joint.fits.row_parts c.args.arc c.in-Some.own part)
    c.keep_part.ensures c.add_hung.ensures c.add_used.ensures

pub returns-in-Some-clause-others : goal.returns-in-Some-clause-others
returns-in-Some-clause-others c = λ r n.
    keeps_row_trans c.args.sides.now c.keep_part.new.sides c.add_used.new.sides r (c.keep_part.ensures.others r n)
    (keeps_row_trans c.keep_part.new.sides c.add_hung.new.sides c.add_used.new.sides r (c.add_hung.ensures.others r n) (c.add_used.ensures.others r n))
