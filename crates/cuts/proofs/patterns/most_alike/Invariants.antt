use Rattle.cuts.specs.Patterns.{AreRunsCounted}
use Rattle.cuts.proofs.patterns.most_alike.Given as goal

abbrev pub invariant-loop-place : goal.invariant-loop-place
invariant-loop-place l = AreRunsCounted l.sorted l.place l.runs
