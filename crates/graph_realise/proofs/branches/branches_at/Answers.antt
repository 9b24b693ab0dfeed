use Rattle.std.proofs.Common.{◌≡◌, ◌<◌, ◌∙◌, [], ◌==◌, length, refl, sym, subst, arith}
use Rattle.std.specs.Prelude.{slice_index_or}
use Rattle.std.proofs.lemmas.List.{get_or_default}
use Rattle.std.proofs.lemmas.Option.{get_or_from_slice_get}
use Rattle.cmr_base.specs.Trees.{support}
use Rattle.graph_realise.specs.Branches.{IsBranch}
use Rattle.graph_realise.specs.Joints.{set_at}
use Rattle.graph_realise.proofs.BranchLemmas.{branches_more}
use Rattle.graph_realise.proofs.branches.branches_at.Goals as goal

pub branch_at-requires-clause-rows : goal.branch_at-requires-clause-rows
branch_at-requires-clause-rows c =
    let l = c.loop-place-test.true in
    let e : c.get-part.result.now ≡ slice_index_or c.args.parts.now c.loop-place.place [] = sym (get_or_from_slice_get c.args.parts.now c.loop-place.place c.get-part.result.now [] c.get-part.ensures) in
    rw e (c.requires.parts c.loop-place.place (omega arith))

pub branch_at-requires-clause-columns : goal.branch_at-requires-clause-columns
branch_at-requires-clause-columns c =
    let l = c.loop-place-test.true in
    let place = c.loop-place.place in
    let sets = c.args.sets.now in
    let inside : place < length c.args.parts.now = let k = c.len-place-end.ensures in omega arith in
    let part : c.get-part.result.now ≡ slice_index_or c.args.parts.now place [] = sym (get_or_from_slice_get c.args.parts.now place c.get-part.result.now [] c.get-part.ensures) in
    let item : c.index-sets-place.result ≡ set_at sets place = c.index-sets-place.is ∙ get_or_default sets place c.index-sets-place.result (set_at [] 0) (omega (arith, inside, c.requires.sets.many)) in
    rw (part, item) (c.requires.sets.each place inside)

pub loop-place-init : goal.loop-place-init
loop-place-init c = record {
  size = c.in_ok-common.ensures.size ∙ c.columns.ensures.columns;
  branches = rw c.new-branches.ensures.items (record { many = refl; each = λ a l. absurd (omega arith) });
}

pub loop-place-preserved : goal.loop-place-preserved
loop-place-preserved c =
    let l = c.loop-place-test.true in
    let M = support c.args.matrix.now in
    let place = c.loop-place.place in
    let part : c.get-part.result.now ≡ slice_index_or c.args.parts.now place [] = sym (get_or_from_slice_get c.args.parts.now place c.get-part.result.now [] c.get-part.ensures) in
    let end : c.get.result.now ≡ slice_index_or c.args.ends.now place 0 = sym (get_or_from_slice_get c.args.ends.now place c.get.result.now 0 c.get.ensures) in record {
      size = c.branch_at.ensures.size;
      branches = rw c.in_ok-push.ensures.items (branches_more M c.args.matrix.now.width c.args.row c.args.parts.now c.args.ends.now place c.loop-place.branches.items c.branch_at.result c.loop-place.invariant.branches
          (subst (λ b. IsBranch M c.args.matrix.now.width c.args.row (slice_index_or c.args.parts.now place []) (b == 1) c.branch_at.result) end
          (subst (λ P. IsBranch M c.args.matrix.now.width c.args.row P (c.get.result.now == 1) c.branch_at.result) part c.branch_at.ensures.branch)));
    }
