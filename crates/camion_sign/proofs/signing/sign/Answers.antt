use Rattle.std.proofs.Common.{◌≡◌, ◌≤◌, ◌*◌, List, length, sym, subst}
use Rattle.std.specs.List.{AllByRecursion}
use Rattle.cmr_base.specs.Matrix.{height}
use Rattle.chains.specs.Chains.{KeepsRule}
use Rattle.chains.specs.ChainTexts.{IsStepIn}
use Rattle.chains.specs.declared.step.SignStep.{SignStep}
use Rattle.chains.specs.SignSteps.{LeadTo, unsigned}
use Rattle.camion_sign.specs.SignOrder.{IsSignedBy}
use Rattle.chains.proofs.ChainViolators.{unsigned_signs}
use Rattle.camion_sign.proofs.FreeSteps.{chain_steps}
use Rattle.camion_sign.proofs.SigningStates.{all_are_signed, same_end, signs_support}
use Rattle.camion_sign.proofs.SignedSteps.{few_signed, steps_in}
use Rattle.camion_sign.proofs.signing.sign.Goals as goal

pub returns-clause-signed : goal.returns-clause-signed
returns-clause-signed c =
    let m = c.args.matrix.now in
    let signing = c.in_ok-signing.signing in
    let end = same_end c.of.result m signing c.of.ensures c.in_ok-signing.ensures.shape c.in_ok-signing.ensures.state in
    let list : signing.steps.list ≡ end.1.steps = end.1.kept c.in_ok-signing.ensures.flag in
    subst (λ steps. IsSignedBy m steps signing.signs) (sym list) (all_are_signed m signing end.0 end.1)

pub returns-clause-chain : goal.returns-clause-chain
returns-clause-chain c binary =
    let m = c.args.matrix.now in
    let signing = c.in_ok-signing.signing in
    let end = same_end c.of.result m signing c.of.ensures c.in_ok-signing.ensures.shape c.in_ok-signing.ensures.state in
    let list : signing.steps.list ≡ end.1.steps = end.1.kept c.in_ok-signing.ensures.flag in
    subst (λ steps. LeadTo (KeepsRule m) (unsigned m) steps signing.signs) (sym list) (chain_steps m end.0 binary end.1.steps (unsigned m) signing.signs (unsigned_signs m) end.1.lead)

pub returns-clause-support : goal.returns-clause-support
returns-clause-support c =
    let m = c.args.matrix.now in
    let signing = c.in_ok-signing.signing in
    let end = same_end c.of.result m signing c.of.ensures c.in_ok-signing.ensures.shape c.in_ok-signing.ensures.state in
    let list : signing.steps.list ≡ end.1.steps = end.1.kept c.in_ok-signing.ensures.flag in
    signs_support m signing end.0 end.1

pub returns-clause-few : goal.returns-clause-few
returns-clause-few c =
    let m = c.args.matrix.now in
    let signing = c.in_ok-signing.signing in
    let end = same_end c.of.result m signing c.of.ensures c.in_ok-signing.ensures.shape c.in_ok-signing.ensures.state in
    let list : signing.steps.list ≡ end.1.steps = end.1.kept c.in_ok-signing.ensures.flag in
    subst (λ (steps : List SignStep). length steps ≤ height m * m.width) (sym list) (few_signed m end.1.steps signing.signs end.0 end.1.signs end.1.lead)

pub returns-clause-steps : goal.returns-clause-steps
returns-clause-steps c =
    let m = c.args.matrix.now in
    let signing = c.in_ok-signing.signing in
    let end = same_end c.of.result m signing c.of.ensures c.in_ok-signing.ensures.shape c.in_ok-signing.ensures.state in
    let list : signing.steps.list ≡ end.1.steps = end.1.kept c.in_ok-signing.ensures.flag in
    subst (λ (steps : List SignStep). AllByRecursion (IsStepIn (height m) m.width) steps) (sym list) (steps_in m end.1.steps (unsigned m) signing.signs end.0 end.1.lead)
