use Rattle.std.proofs.Common.{take}
use Rattle.std.specs.List.{AllByRecursion}
use Rattle.cmr_base.specs.Matrix.{entry}
use Rattle.cmr_base.specs.PlacedPivots.{reduced}
use Rattle.ghouila.specs.Pivot.{IsTernaryRow}
use Rattle.ghouila.proofs.pivots.first_square_violator.Given as goal

abbrev pub invariant-loop-other : goal.invariant-loop-other
invariant-loop-other l = AllByRecursion (λ other. IsTernaryRow l.work.width (reduced (entry l.work) l.row l.column other)) (take l.other-index l.left)
