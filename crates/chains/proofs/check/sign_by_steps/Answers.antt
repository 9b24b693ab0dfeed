use Rattle.std.proofs.Common.{◌≡◌, length, refl, sym, subst, to_z, of_z, w8, arith}
use Rattle.std.proofs.lemmas.Int.{ints}
use Rattle.cmr_base.proofs.SignEntries.{sign_is_entry}
use Rattle.chains.specs.SignSteps.{AreSigns}
use Rattle.chains.proofs.ChainChecks.{rule_one, step_kept, followed_to, followed_all}
use Rattle.chains.proofs.ChainViolators.{unsigned_signs}
use Rattle.chains.proofs.StepCounts.{few_followed, few_all}
use Rattle.chains.proofs.check.sign_by_steps.Goals as goal

pub loop-kept-init : goal.loop-kept-init
loop-kept-init c = record {
  signs = subst (AreSigns c.args.matrix.now) (sym c.requires.unsigned) (unsigned_signs c.args.matrix.now);
  labels = c.requires.labels;
  leads = sym c.requires.unsigned;
}

pub loop-kept-preserved : goal.loop-kept-preserved
loop-kept-preserved c =
    let a = c.args.matrix.now in
    let s = c.loop-kept.signs in
    let v = c.in-Some.sign in
    let before = c.loop-kept.invariant in
    let rule = c.in-Some.ensures in
    let small = sign_is_entry v (rule_one a s c.index-steps-kept.result v rule).1 in
    let low = small.low in
    let high = small.high in
    let kept : to_z w8 (of_z w8 v) ≡ v = omega (arith, ints) in
    let more = step_kept a s c.give_sign.new.signs c.args.steps.now c.loop-kept.kept c.index-steps-kept.result c.index-steps-kept-in-Some.result v (to_z w8 (of_z w8 v)) c.loop-kept-test.true c.index-steps-kept.is c.index-steps-kept-in-Some.is
    rule kept c.give_sign.ensures.signs before.leads c.requires.matrix before.signs in
    record { signs = more.0; labels = c.give_sign.ensures.labels; leads = more.1 }

pub returns-in-None-clause-followed : goal.returns-in-None-clause-followed
returns-in-None-clause-followed c =
    let before = c.loop-kept.invariant in
    followed_to c.args.matrix.now c.loop-kept.signs c.args.steps.now c.loop-kept.kept c.index-steps-kept.result c.loop-kept-test.true c.index-steps-kept.is before.signs before.leads c.in-None.ensures

pub returns-in-None-clause-few : goal.returns-in-None-clause-few
returns-in-None-clause-few c =
    let before = c.loop-kept.invariant in
    few_followed c.args.matrix.now c.args.steps.now c.loop-kept.kept c.loop-kept.signs (let h = c.loop-kept-test.true in omega (arith, h)) c.requires.matrix before.signs before.leads

pub returns-clause-followed : goal.returns-clause-followed
returns-clause-followed c =
    let before = c.loop-kept.invariant in
    followed_all c.args.matrix.now c.loop-kept.signs c.args.steps.now c.loop-kept.kept (length c.args.steps.now) (let h = c.loop-kept-test.false in omega (arith, h)) refl before.signs before.leads

pub returns-clause-few : goal.returns-clause-few
returns-clause-few c =
    let before = c.loop-kept.invariant in
    few_all c.args.matrix.now c.args.steps.now c.loop-kept.kept c.loop-kept.signs (let h = c.loop-kept-test.false in omega (arith, h)) c.requires.matrix before.signs before.leads
