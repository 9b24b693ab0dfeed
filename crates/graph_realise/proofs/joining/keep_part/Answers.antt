use Rattle.cmr_base.specs.Trees.{support}
use Rattle.graph_realise.proofs.JoinLemmas.{part_stays, part_reversed}
use Rattle.graph_realise.proofs.joining.keep_part.Goals as goal

pub returns-then-is_reversed : goal.returns-then-is_reversed
returns-then-is_reversed c = part_reversed (support c.args.matrix.now) c.args.joint.now c.args.arc c.args.own c.args.sides.now c.reverse_part.new.sides c.args.is_reversed c.if-is_reversed.true c.reverse_part.ensures

pub returns-else-is_reversed : goal.returns-else-is_reversed
returns-else-is_reversed c =
    part_stays (support c.args.matrix.now) c.args.joint.now c.args.arc c.args.own c.args.matrix.now c.args.sides.now c.take_out.new.self c.take_out-else-is_reversed.new.self c.args.is_reversed c.if-is_reversed.false c.requires.reversed
    c.requires.own c.requires.joint.fits c.requires.joint.off c.requires.tables c.requires.clear c.take_out.ensures c.take_out-else-is_reversed.ensures (c.requires.joint.fits.row_parts c.args.arc c.args.own c.requires.own)
