use Rattle.cmr_tools.proofs.LawfulOrders.{lawful}
use Rattle.cmr_tools.proofs.laws.faults_are_of_files.Goals as goal

pub returns : goal.returns
returns c = λ order. (lawful order).at_fault
