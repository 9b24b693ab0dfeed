use Rattle.std.proofs.Common.{◌≡◌, take}
use Rattle.std.specs.List.{AllByRecursion}
use Rattle.cmr_base.specs.Matrix.{entry}
use Rattle.balance.specs.BalanceFaults.{row_nonzeros}
use Rattle.balance.proofs.set_fault.have_two_in_rows.Given as goal

abbrev pub invariant-loop-row : goal.invariant-loop-row
invariant-loop-row l = AllByRecursion (λ row. row_nonzeros (entry l.matrix) l.columns row ≡ 2) (take l.row-index l.rows)
