use Rattle.std.proofs.Common.{take}
use Rattle.std.specs.List.{AllByRecursion}
use Rattle.chains.specs.ChainStates.{IsOpenBut}
use Rattle.chains.proofs.check.row_signed_but.Given as goal

abbrev pub invariant-loop-j : goal.invariant-loop-j
invariant-loop-j l = AllByRecursion (λ j. ¬ (IsOpenBut l.matrix l.signs l.row l.column l.i j)) (take l.j-index l.columns)
