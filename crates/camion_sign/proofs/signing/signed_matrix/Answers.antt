use Rattle.chains.specs.SignSteps.{unsigned}
use Rattle.chains.proofs.ChainViolators.{unsigned_signs}
use Rattle.camion_sign.proofs.FreeSteps.{chain_steps}
use Rattle.camion_sign.proofs.SigningStates.{all_are_signed, same_end, signs_support}
use Rattle.camion_sign.proofs.signing.signed_matrix.Goals as goal

pub returns-clause-signed : goal.returns-clause-signed
returns-clause-signed c =
    let m = c.args.matrix.now in
    let signing = c.in_ok-signing.signing in
    let end = same_end c.of.result m signing c.of.ensures c.in_ok-signing.ensures.shape c.in_ok-signing.ensures.state in
    (end.1.steps, all_are_signed m signing end.0 end.1, λ binary. chain_steps m end.0 binary end.1.steps (unsigned m) signing.signs (unsigned_signs m) end.1.lead)

pub returns-clause-support : goal.returns-clause-support
returns-clause-support c =
    let m = c.args.matrix.now in
    let signing = c.in_ok-signing.signing in
    let end = same_end c.of.result m signing c.of.ensures c.in_ok-signing.ensures.shape c.in_ok-signing.ensures.state in
    signs_support m signing end.0 end.1
