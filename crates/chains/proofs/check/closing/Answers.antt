use Rattle.std.proofs.Common.{◌∙◌, ℤ, pos, inl, inr, refl, ap, w32}
use Rattle.std.specs.Int.{int_rem_euclid}
use Rattle.std.proofs.lemmas.Int.{to_z-of_z}
use Rattle.chains.proofs.OddSums.{minus_closes}
use Rattle.chains.proofs.ChainChecks.{three_closes, none_closes}
use Rattle.chains.proofs.check.closing.Goals as goal

pub returns-then-rest-eq1 : goal.returns-then-rest-eq1
returns-then-rest-eq1 c =
    let value = c.rem_euclid-rest.ensures.value ∙ ap (λ (z : ℤ). int_rem_euclid z (pos 4)) (to_z-of_z w32 c.args.sum c.ranges.sum) in
    (inr refl, minus_closes c.args.sum c.rem_euclid-rest.result value c.if-rest-eq1.true)

pub returns-then-rest-eq3 : goal.returns-then-rest-eq3
returns-then-rest-eq3 c =
    let value = c.rem_euclid-rest.ensures.value ∙ ap (λ (z : ℤ). int_rem_euclid z (pos 4)) (to_z-of_z w32 c.args.sum c.ranges.sum) in
    (inl refl, three_closes c.args.sum c.rem_euclid-rest.result value c.if-rest-eq3.true)

pub returns-else-rest-eq3 : goal.returns-else-rest-eq3
returns-else-rest-eq3 c =
    let value = c.rem_euclid-rest.ensures.value ∙ ap (λ (z : ℤ). int_rem_euclid z (pos 4)) (to_z-of_z w32 c.args.sum c.ranges.sum) in
    none_closes c.args.sum c.rem_euclid-rest.result value c.if-rest-eq1.false c.if-rest-eq3.false
