use Rattle.std.proofs.Common.{take}
use Rattle.std.specs.List.{AllByRecursion}
use Rattle.balance.specs.CandidateColumns.{AreAlikeColumns}
use Rattle.balance.proofs.kept.has_alike.Given as goal

abbrev pub invariant-loop-other : goal.invariant-loop-other
invariant-loop-other l = AllByRecursion (λ other. ¬ (AreAlikeColumns l.matrix l.rows other l.column)) (take l.other-index l.columns)
