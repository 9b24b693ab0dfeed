use Rattle.open_parts.proofs.TriedRoots.{found_faults_are_violators}
use Rattle.open_parts.proofs.laws.found_faults.Goals as goal

pub returns : goal.returns
returns c = found_faults_are_violators
