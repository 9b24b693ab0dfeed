use Rattle.std.proofs.Common.{◌∙◌, SFits, ap, get_or, pos, w8, Bool, cond, rules, arith}
use Rattle.std.proofs.lemmas.Int.{to_z-of_z}
use Rattle.cmr_base.specs.Matrix.{is_nonzero}
use Rattle.cmr_base.specs.Planes.{is_minus}
use Rattle.cmr_base.proofs.Booleans.{one_or_none}
use Rattle.cmr_base.proofs.PlaneWords.{bit_added}
use Rattle.cmr_base.proofs.planes.words_in.Goals as goal

pub loop-place-preserved : goal.loop-place-preserved
loop-place-preserved c =
    let zs = c.args.entries.now in
    let place = c.loop-place.place in
    let fits : SFits w8 (get_or zs place (pos 0)) = search rules in
    let value = to_z-of_z w8 (get_or zs place (pos 0)) fits in
    record {
      support_is = bit_added is_nonzero zs place c.loop-place.support c.from.result c.loop-place-test.true (omega arith) c.loop-place.invariant.support_is
          (c.from.ensures ∙ one_or_none c.passes.result ∙ ap (λ (b : Bool). cond b 1 0) (c.passes.ensures ∙ ap is_nonzero value));
      minus_is = bit_added is_minus zs place c.loop-place.minus c.from-in-loop-place.result c.loop-place-test.true (omega arith) c.loop-place.invariant.minus_is
          (c.from-in-loop-place.ensures ∙ one_or_none c.passes-in-loop-place.result ∙ ap (λ (b : Bool). cond b 1 0) (c.passes-in-loop-place.ensures ∙ ap is_minus value));
    }
