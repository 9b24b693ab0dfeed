use Rattle.cycle_faults.proofs.CycleFaultLaws.{cycle_faults_are_minimal_violators, cycle_faults_have_determinant_two}
use Rattle.cycle_faults.proofs.laws.cycle_faults.Goals as goal

pub returns-clause-minimal : goal.returns-clause-minimal
returns-clause-minimal c = cycle_faults_are_minimal_violators

pub returns-clause-two : goal.returns-clause-two
returns-clause-two c = cycle_faults_have_determinant_two
