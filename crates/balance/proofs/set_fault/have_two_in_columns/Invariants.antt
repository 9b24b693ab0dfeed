use Rattle.std.proofs.Common.{◌≡◌, take}
use Rattle.std.specs.List.{AllByRecursion}
use Rattle.cmr_base.specs.Matrix.{entry}
use Rattle.balance.specs.BalanceFaults.{column_nonzeros}
use Rattle.balance.proofs.set_fault.have_two_in_columns.Given as goal

abbrev pub invariant-loop-column : goal.invariant-loop-column
invariant-loop-column l = AllByRecursion (λ column. column_nonzeros (entry l.matrix) l.rows column ≡ 2) (take l.column-index l.columns)
