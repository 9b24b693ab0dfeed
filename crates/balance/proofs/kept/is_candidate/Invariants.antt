use Rattle.std.proofs.Common.{◌≡◌, ◌≤◌, take}
use Rattle.balance.specs.BalanceFaults.{column_nonzeros}
use Rattle.cmr_base.specs.Matrix.{entry}
use Rattle.balance.proofs.kept.is_candidate.Given as goal

abbrev pub invariant-loop-row : goal.invariant-loop-row
invariant-loop-row l = record {
  counted : l.count ≡ column_nonzeros (entry l.matrix) (take l.row-index l.rows) l.column;
  few : l.count ≤ l.row-index;
}
