use Rattle.first_hit.specs.First.{NoneBetween}
use Rattle.first_hit.proofs.probe.Probe.first.Given as goal

abbrev pub invariant-loop-index : goal.invariant-loop-index
invariant-loop-index g l = NoneBetween (g.Self.Probe.holds l.self) l.from l.index
