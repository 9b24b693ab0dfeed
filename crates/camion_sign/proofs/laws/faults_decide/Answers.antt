use Rattle.camion_sign.proofs.RegularSignings.{fault_free_decides}
use Rattle.camion_sign.proofs.laws.faults_decide.Goals as goal

pub returns : goal.returns
returns c = fault_free_decides
