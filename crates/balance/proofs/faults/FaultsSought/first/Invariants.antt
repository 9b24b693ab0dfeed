use Rattle.first_hit.specs.First.{NoneBetween}
use Rattle.balance.specs.CandidateColumns.{MakeFaultAt}
use Rattle.balance.proofs.faults.FaultsSought.first.Given as goal

abbrev pub invariant-loop-number : goal.invariant-loop-number
invariant-loop-number l = NoneBetween (MakeFaultAt l.matrix) l.from l.number
