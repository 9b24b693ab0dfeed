use Rattle.std.proofs.Common.{◌≡◌, ◌≤ℤ◌, pos, neg_ℤ, take}
use Rattle.cmr_base.specs.Sums.{sum_over}
use Rattle.sparse_matrix.specs.SparseRows.{value_in}
use Rattle.cmr_large.proofs.sums.row_sum.Given as goal

-- the sum of the nonzeros so far
abbrev pub invariant-loop-nonzero : goal.invariant-loop-nonzero
invariant-loop-nonzero l = record {
  sum_is : l.sum ≡ sum_over l.columns (value_in (take l.nonzero-index l.run));
  low : neg_ℤ (pos l.nonzero-index) ≤ℤ l.sum;
  high : l.sum ≤ℤ pos l.nonzero-index;
}
