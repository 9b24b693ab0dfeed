use Rattle.camion_sign.proofs.SigningStates.{row_ended}
use Rattle.camion_sign.proofs.signing.sign_row.Goals as goal

pub returns-clause-state : goal.returns-clause-state
returns-clause-state c =
    row_ended c.args.matrix.now c.args.row c.ones.signing c.begin.new.self c.ones.invariant.state (rw c.in_default.is at c.ones.invariant.first) c.begin.ensures.none c.begin.ensures.long c.begin.ensures.passed
