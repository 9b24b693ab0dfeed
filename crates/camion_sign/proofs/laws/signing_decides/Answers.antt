use Rattle.camion_sign.proofs.RegularSignings.{signings_decide}
use Rattle.camion_sign.proofs.laws.signing_decides.Goals as goal

pub returns : goal.returns
returns c = signings_decide
