use Rattle.std.proofs.Common.{◌≡◌, ◌≤ℤ◌, neg_ℤ, pos, take}
use Rattle.cmr_base.specs.Matrix.{entry}
use Rattle.cmr_base.specs.Sums.{sum_over}
use Rattle.cmr_base.proofs.matrix.Matrix.column_sum.Given as goal

abbrev pub invariant-loop-row : goal.invariant-loop-row
invariant-loop-row l = record {
  so_far : l.sum ≡ sum_over (take l.row-index l.rows) (λ row. entry l.self row l.column);
  low : neg_ℤ (pos l.row-index) ≤ℤ l.sum;
  high : l.sum ≤ℤ pos l.row-index;
}
