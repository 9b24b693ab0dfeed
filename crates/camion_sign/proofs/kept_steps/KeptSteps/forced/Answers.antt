use Rattle.std.proofs.Common.{◌∙◌, ◌++◌, ◌∷◌, [], ap, sym}
use Rattle.std.proofs.lemmas.Bool.{true≢false}
use Rattle.chains.specs.declared.step.SignStep.TheVariants.{Forced}
use Rattle.camion_sign.proofs.SomeCycles.{some_cycle}
use Rattle.camion_sign.proofs.kept_steps.KeptSteps.forced.Goals as goal

pub returns-then-not-self-clause-kept : goal.returns-then-not-self-clause-kept
returns-then-not-self-clause-kept c =
    let cycle = some_cycle c.args.matrix.now c.args.row c.args.forced.partner c.args.forced.column c.requires.places.room.fits.matrix c.requires.place in
    (cycle.0, cycle.1, λ steps kept flag. absurd (true≢false (sym flag ∙ c.if-not-self.true)))

pub returns-clause-kept : goal.returns-clause-kept
returns-clause-kept c = (c.in_ok-cycle.cycle, c.in_ok-cycle.ensures.cycle, λ steps kept flag. c.in_ok-push.ensures.ok ∙ ap (λ list. list ++ Forced c.args.row c.args.forced.column c.in_ok-cycle.cycle ∷ []) (kept flag))
