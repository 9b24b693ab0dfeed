use Rattle.graph_realise.proofs.JointLemmas.{IsMarkedTo}
use Rattle.graph_realise.proofs.joint.marks_of.Given as goal

abbrev pub invariant-loop-line : goal.invariant-loop-line
invariant-loop-line l = IsMarkedTo l.numbers l.count l.line l.marks
