use Rattle.std.proofs.Common.{◌≡◌, ◌≤◌, take}
use Rattle.balance.specs.BalanceFaults.{row_nonzeros}
use Rattle.cmr_base.specs.Matrix.{entry}
use Rattle.balance.proofs.set_fault.has_two.Given as goal

abbrev pub invariant-loop-column : goal.invariant-loop-column
invariant-loop-column l = record {
  counted : l.count ≡ row_nonzeros (entry l.matrix) (take l.column-index l.columns) l.row;
  few : l.count ≤ l.column-index;
}
