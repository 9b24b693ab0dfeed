use Rattle.std.proofs.Common.{sym, subst, arith, get_or, List, ℕ}
use Rattle.std.specs.List.Sorted.{IsStrictlyIncreasing}
use Rattle.cmr_base.specs.Members.{IsIn}
use Rattle.cmr_base.specs.Trees.{support}
use Rattle.cmr_base.proofs.Members.{in_at}
use Rattle.graph_realise.specs.Joints.{IsArcJoined}
use Rattle.graph_realise.specs.SideTables.{KeepsOtherArcs}
use Rattle.graph_realise.proofs.JoinLemmas.{clear_stays, joined_stays, joined_from}
use Rattle.graph_realise.proofs.SideLemmas.{not_before, redrawn_more, redrawn_all, redrawn_others}
use Rattle.graph_realise.proofs.joining.join.Goals.{then-arc-joint, else-arc-joint}
use Rattle.graph_realise.proofs.joining.join.Goals as goal

pub join_arc-requires-clause-part : goal.join_arc-requires-clause-part
join_arc-requires-clause-part c =
    let items = c.as_slice-arc-items.result.now in
    let l = c.loop-arc-test.true in
    c.requires.numbered (get_or items c.loop-arc.arc-index 0)
    (subst (λ (xs : List ℕ). IsIn (get_or items c.loop-arc.arc-index 0) xs) c.as_slice-arc-items.ensures.items (in_at items c.loop-arc.arc-index (omega arith)))
    c.if-arc-joint.false

pub join_arc-requires-clause-clear : goal.join_arc-requires-clause-clear
join_arc-requires-clause-clear c =
    let items = c.as_slice-arc-items.result.now in
    let index = c.loop-arc.arc-index in
    let l = c.loop-arc-test.true in
    let kept = c.loop-arc.invariant.joined.kept (get_or items index 0) (not_before items index (subst IsStrictlyIncreasing (sym c.as_slice-arc-items.ensures.items) c.as_slice-arc-items.ensures.increasing) (omega arith)) in
    clear_stays (support c.args.matrix.now) c.args.joint.now c.args.sides.now c.loop-arc.sides (get_or items index 0) kept
    (c.requires.clear (get_or items index 0) (subst (λ (xs : List ℕ). IsIn (get_or items index 0) xs) c.as_slice-arc-items.ensures.items (in_at items index (omega arith))) c.if-arc-joint.false)

pub loop-arc-preserved : goal.loop-arc-preserved
loop-arc-preserved c =
    let m = c.args.matrix.now in
    let M = support m in
    let joint = c.args.joint.now in
    let old = c.args.sides.now in
    let items = c.as_slice-arc-items.result.now in
    let index = c.loop-arc.arc-index in
    let so = c.loop-arc.invariant in
    let l = c.loop-arc-test.true in
    let kept = so.joined.kept (get_or items index 0) (not_before items index (subst IsStrictlyIncreasing (sym c.as_slice-arc-items.ensures.items) c.as_slice-arc-items.ensures.increasing) (omega arith)) in
    elim c.if-arc-joint.branch [
      | then-arc-joint w ↦ rw w.sides-is (record {
        tables = w.join_row.ensures.tables;
        joined = redrawn_more (λ r new. IsArcJoined M joint old new r) (λ r a b k h. joined_stays M joint old r a b k h) items index old c.loop-arc.sides w.join_row.new.sides so.joined
            (subst (KeepsOtherArcs c.loop-arc.sides w.join_row.new.sides) (sym w.if-arc-joint.true) w.join_row.ensures.others)
            (joined_from M joint m old c.loop-arc.sides w.join_row.new.sides (get_or items index 0) c.requires.tables so.tables kept
            (subst (IsArcJoined M joint c.loop-arc.sides w.join_row.new.sides) (sym w.if-arc-joint.true) w.join_row.ensures.joined));
      })
      | else-arc-joint w ↦ rw w.sides-is (record {
        tables = w.join_arc.ensures.tables;
        joined = redrawn_more (λ r new. IsArcJoined M joint old new r) (λ r a b k h. joined_stays M joint old r a b k h) items index old c.loop-arc.sides w.join_arc.new.sides so.joined w.join_arc.ensures.others
            (joined_from M joint m old c.loop-arc.sides w.join_arc.new.sides (get_or items index 0) c.requires.tables so.tables kept w.join_arc.ensures.joined);
      })
    ]

pub returns-clause-joined : goal.returns-clause-joined
returns-clause-joined c = λ r h.
    redrawn_all (λ r new. IsArcJoined (support c.args.matrix.now) c.args.joint.now c.args.sides.now new r) c.as_slice-arc-items.result.now c.loop-arc.arc-index c.args.sides.now c.loop-arc.sides
    (let l = c.loop-arc-test.false in omega arith) c.loop-arc.invariant.joined r
    (subst (λ (xs : List ℕ). IsIn r xs) (sym c.as_slice-arc-items.ensures.items) h)

pub returns-clause-others : goal.returns-clause-others
returns-clause-others c = λ r n.
    redrawn_others (λ r new. IsArcJoined (support c.args.matrix.now) c.args.joint.now c.args.sides.now new r) c.as_slice-arc-items.result.now c.loop-arc.arc-index c.args.sides.now c.loop-arc.sides
    (let l = c.loop-arc.auto.arc-index-end in omega arith) c.loop-arc.invariant.joined r
    (λ h. n (subst (λ (xs : List ℕ). IsIn r xs) c.as_slice-arc-items.ensures.items h))
