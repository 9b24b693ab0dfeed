use Rattle.std.proofs.Common.{take}
use Rattle.std.specs.List.{AllByRecursion}
use Rattle.chains.specs.ChainStates.{IsOpenBut}
use Rattle.chains.proofs.check.all_signed_but.Given as goal

abbrev pub invariant-loop-i : goal.invariant-loop-i
invariant-loop-i l = AllByRecursion (λ i. AllByRecursion (λ j. ¬ (IsOpenBut l.matrix l.signs l.row l.column i j)) l.columns) (take l.i-index l.rows)
