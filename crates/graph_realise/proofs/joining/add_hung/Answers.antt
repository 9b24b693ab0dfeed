use Rattle.std.proofs.Common.{◌∙◌, ◌&&◌, ◌==◌, not, sym, arith}
use Rattle.cmr_base.specs.Trees.{support}
use Rattle.graph_realise.specs.Joints.{hanging_of}
use Rattle.graph_realise.specs.Merging.{spot}
use Rattle.graph_realise.proofs.JoinLemmas.{line_for, none_chosen, part_chosen, part_passed}
use Rattle.graph_realise.proofs.joining.add_hung.Goals.{then-hangs, else-hangs}
use Rattle.graph_realise.proofs.joining.add_hung.Goals as goal

pub loop-part-init : goal.loop-part-init
loop-part-init c = record { tables = c.requires.tables; hung = none_chosen c.args.joint.now (λ p. not (p == c.args.own) && spot (support c.args.matrix.now) c.args.joint.now.row (hanging_of c.args.joint.now) c.args.arc p) c.args.arc c.args.sides.now }

pub add_part-requires : goal.add_part-requires
add_part-requires c = line_for c.args.matrix.now c.args.joint.now c.loop-part.sides c.args.arc c.loop-part.part c.requires.joint c.loop-part.invariant.tables c.requires.arc (let l = c.loop-part-test.true in omega arith)

pub loop-part-preserved : goal.loop-part-preserved
loop-part-preserved c =
    let m = c.args.matrix.now in
    let M = support m in
    let joint = c.args.joint.now in
    let part = c.loop-part.part in
    let so = c.loop-part.invariant in
    elim c.if-hangs.branch [
      | then-hangs w ↦ rw w.sides-is (record {
        tables = w.add_part.ensures.sizes m so.tables;
        hung = part_chosen joint (λ p. not (p == c.args.own) && spot M joint.row (hanging_of joint) c.args.arc p) c.args.arc m part c.args.sides.now c.loop-part.sides w.add_part.new.sides c.requires.joint c.requires.tables so.tables (let l = c.loop-part-test.true in omega arith)
            (sym c.hangs.ensures ∙ w.if-hangs.true) so.hung w.add_part.ensures;
      })
      | else-hangs w ↦ rw w.sides-is (record {
        tables = so.tables;
        hung = part_passed joint (λ p. not (p == c.args.own) && spot M joint.row (hanging_of joint) c.args.arc p) c.args.arc part c.args.sides.now c.loop-part.sides (sym c.hangs.ensures ∙ w.if-hangs.false) so.hung;
      })
    ]
