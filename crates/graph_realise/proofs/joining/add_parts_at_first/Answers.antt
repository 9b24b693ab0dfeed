use Rattle.std.proofs.Common.{◌∙◌, ◌<◌, length, false, None, ap, sym, arith}
use Rattle.std.proofs.lemmas.List.{get_or_read}
use Rattle.graph_realise.specs.Joints.{is_at_first}
use Rattle.graph_realise.proofs.JoinLemmas.{line_for, none_chosen, part_chosen, part_passed}
use Rattle.graph_realise.proofs.joining.add_parts_at_first.Goals.{then-index, else-index}
use Rattle.graph_realise.proofs.joining.add_parts_at_first.Goals as goal

pub loop-part-init : goal.loop-part-init
loop-part-init c = record { tables = c.requires.tables; chosen = none_chosen c.args.joint.now (is_at_first c.args.joint.now) c.args.joint.now.row c.args.sides.now }

pub add_part-requires : goal.add_part-requires
add_part-requires c = line_for c.args.matrix.now c.args.joint.now c.loop-part.sides c.args.joint.now.row c.loop-part.part c.requires.joint c.loop-part.invariant.tables c.requires.joint.row (let e = c.len-part-end.ensures in let l = c.loop-part-test.true in omega arith)

pub loop-part-preserved : goal.loop-part-preserved
loop-part-preserved c =
    let m = c.args.matrix.now in
    let joint = c.args.joint.now in
    let part = c.loop-part.part in
    let so = c.loop-part.invariant in
    let inside : part < length joint.branches.items = let e = c.len-part-end.ensures in let l = c.loop-part-test.true in omega arith in
    let read = ap (λ b. b.end) (get_or_read joint.branches.items part c.index.result.now inside c.index.ensures (record { end = false; weight = 0; common = None })) in
    elim c.if-index.branch [
      | then-index w ↦ rw w.sides-is (record {
        tables = w.add_part.ensures.sizes m so.tables;
        chosen = part_chosen joint (is_at_first joint) joint.row m part c.args.sides.now c.loop-part.sides w.add_part.new.sides c.requires.joint c.requires.tables so.tables inside (sym read ∙ w.if-index.true) so.chosen w.add_part.ensures;
      })
      | else-index w ↦ rw w.sides-is (record {
        tables = so.tables;
        chosen = part_passed joint (is_at_first joint) joint.row part c.args.sides.now c.loop-part.sides (sym read ∙ w.if-index.false) so.chosen;
      })
    ]
