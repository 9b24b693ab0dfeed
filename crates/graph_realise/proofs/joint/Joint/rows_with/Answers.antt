use Rattle.std.proofs.Common.{◌≡◌, ◌⊎◌, Some, length, get_or, arith}
use Rattle.cmr_base.proofs.Members.{in_at, increasing-append}
use Rattle.cmr_base.proofs.RowLists.{not_both}
use Rattle.graph_realise.specs.Joints.{number_at}
use Rattle.graph_realise.proofs.JointLemmas.{numbered_row, rows_more, rows_same}
use Rattle.graph_realise.proofs.joint.Joint.rows_with.Goals.{then-is_with+in_ok-push, else-is_with}
use Rattle.graph_realise.proofs.joint.Joint.rows_with.Goals as goal

pub push-requires : goal.push-requires
push-requires c = λ k l. ((c.loop-row.invariant.rows (get_or c.loop-row.rows k 0)).0 (in_at c.loop-row.rows k l)).0

pub loop-row-preserved : goal.loop-row-preserved
loop-row-preserved c =
    let joint = c.args.self.now in
    let so = c.loop-row.invariant in
    elim c.if-is_with.branch [
      | then-is_with+in_ok-push w ↦
          rw (w.rows-is, w.in_ok-push.ensures.ok) (record {
            increasing = increasing-append c.loop-row.rows c.loop-row.row so.increasing (λ y h. ((so.rows y).0 h).0);
            rows = rows_more (λ x. (x ≡ joint.row) ⊎ (number_at joint.part_of.items x ≡ Some c.args.part)) c.loop-row.row c.loop-row.rows so.rows (c.is_with.ensures.0 w.if-is_with.true);
          })
      | else-is_with w ↦
          rw w.rows-is (record {
            increasing = so.increasing;
            rows = rows_same (λ x. (x ≡ joint.row) ⊎ (number_at joint.part_of.items x ≡ Some c.args.part)) c.loop-row.row c.loop-row.rows so.rows
                (λ h. not_both c.is_with.result (c.is_with.ensures.1 h) w.if-is_with.false);
          })
    ]

pub returns-clause-rows : goal.returns-clause-rows
returns-clause-rows c = λ x.
    let joint = c.args.self.now in (
      λ h. ((c.loop-row.invariant.rows x).0 h).1,
      λ h. (c.loop-row.invariant.rows x).1 (numbered_row joint.row (length joint.part_of.items) joint.part_of.items c.args.part c.loop-row.row x c.requires.row (let e = c.len-row-end.ensures in let l = c.loop-row-test.false in omega arith) (let e = c.len-row-end.ensures in let l = c.loop-row-test.false in omega arith) h, h),
    )
