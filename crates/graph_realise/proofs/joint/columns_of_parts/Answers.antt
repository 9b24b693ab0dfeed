use Rattle.std.proofs.Common.{◌≡◌, ℕ, List, [], length, sym, subst, arith}
use Rattle.std.specs.Prelude.{slice_index_or}
use Rattle.std.proofs.lemmas.Option.{get_or_from_slice_get}
use Rattle.cmr_base.specs.Trees.{support}
use Rattle.graph_realise.specs.Joints.{AreColumnsOfParts, IsSetOfPart}
use Rattle.graph_realise.proofs.JointLemmas.{sets_more}
use Rattle.graph_realise.proofs.joint.columns_of_parts.Goals as goal

pub columns_of_part-requires : goal.columns_of_part-requires
columns_of_part-requires c =
    let l = c.loop-place-test.true in
    let e : c.get.result.now ≡ slice_index_or c.args.parts.now c.loop-place.place [] = sym (get_or_from_slice_get c.args.parts.now c.loop-place.place c.get.result.now [] c.get.ensures) in
    rw e (c.requires c.loop-place.place (let k = c.len-place-end.ensures in omega arith))

pub loop-place-preserved : goal.loop-place-preserved
loop-place-preserved c =
    let M = support c.args.matrix.now in
    let n = c.args.matrix.now.width in
    let place = c.loop-place.place in
    let part : c.get.result.now ≡ slice_index_or c.args.parts.now place [] = sym (get_or_from_slice_get c.args.parts.now place c.get.result.now [] c.get.ensures) in
    rw c.in_ok-push.ensures.items (sets_more M n c.args.parts.now place c.loop-place.sets.items c.in_ok-columns.columns c.loop-place.invariant
    (subst (λ (rows : List ℕ). IsSetOfPart M n rows c.in_ok-columns.columns) part c.in_ok-columns.ensures))

pub returns : goal.returns
returns c =
    let l = c.loop-place-test.false in
    let k = c.len-place-end.ensures in
    let b = c.loop-place.auto.place-end in
    let e : c.loop-place.place ≡ length c.args.parts.now = omega arith in
    subst (λ (count : ℕ). AreColumnsOfParts (support c.args.matrix.now) c.args.matrix.now.width c.args.parts.now count c.loop-place.sets.items) e c.loop-place.invariant
