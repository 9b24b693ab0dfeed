use Rattle.std.proofs.Common.{ℤ, MatchOption, sym, subst}
use Rattle.chains.specs.declared.step.SignStep.{SignStep}
use Rattle.chains.specs.Chains.{KeepsRule}
use Rattle.chains.proofs.check.sign_of_step.Goals as goal

pub returns-in-Forced : goal.returns-in-Forced
returns-in-Forced c =
    let a = c.args.matrix.now in
    let s = c.args.signs.now in
    subst (λ (step : SignStep). MatchOption c.forced_sign.result ((sign : ℤ) → ¬ (KeepsRule a s step sign)) (KeepsRule a s step)) (sym c.in-Forced.is) c.forced_sign.ensures
