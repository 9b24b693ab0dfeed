use Rattle.std.proofs.Common.{◌≡◌, ◌∙◌, ℕ, List, [], length, sym, subst, arith}
use Rattle.std.specs.Prelude.{slice_index_or}
use Rattle.std.proofs.lemmas.Option.{get_or_from_slice_get}
use Rattle.cmr_base.specs.Members.{IsIn}
use Rattle.graph_realise.specs.Joints.{AreNumbered}
use Rattle.graph_realise.proofs.JointLemmas.{numbered_more}
use Rattle.graph_realise.proofs.joint.parts_of_rows.Goals as goal

pub number_rows-requires : goal.number_rows-requires
number_rows-requires c =
    let l = c.loop-place-test.true in
    let e : c.get.result.now ≡ slice_index_or c.args.parts.now c.loop-place.place [] = sym (get_or_from_slice_get c.args.parts.now c.loop-place.place c.get.result.now [] c.get.ensures) in
    rw (e, c.loop-place.invariant.size) (c.requires.parts c.loop-place.place (let k = c.len-place-end.ensures in omega arith))

pub loop-place-preserved : goal.loop-place-preserved
loop-place-preserved c =
    let l = c.loop-place-test.true in
    let place = c.loop-place.place in
    let part : c.get.result.now ≡ slice_index_or c.args.parts.now place [] = sym (get_or_from_slice_get c.args.parts.now place c.get.result.now [] c.get.ensures) in record {
      size = c.number_rows.ensures.size ∙ c.loop-place.invariant.size;
      numbered = numbered_more c.args.parts.now place c.loop-place.numbers.items c.number_rows.new.numbers.items c.requires.disjoint (let k = c.len-place-end.ensures in omega arith) c.loop-place.invariant.numbered
          (λ row h. c.number_rows.ensures.inside row (subst (λ (xs : List ℕ). IsIn row xs) (sym part) h))
          (λ row n. c.number_rows.ensures.outside row (λ h. n (subst (λ (xs : List ℕ). IsIn row xs) part h)));
    }

pub returns-clause-numbered : goal.returns-clause-numbered
returns-clause-numbered c =
    let l = c.loop-place-test.false in
    let k = c.len-place-end.ensures in
    let b = c.loop-place.auto.place-end in
    let e : c.loop-place.place ≡ length c.args.parts.now = omega arith in
    subst (λ (z : ℕ). AreNumbered c.args.parts.now z c.loop-place.numbers.items) e c.loop-place.invariant.numbered
