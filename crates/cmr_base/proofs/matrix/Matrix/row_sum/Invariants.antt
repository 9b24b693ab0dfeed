use Rattle.std.proofs.Common.{◌≡◌, ◌+ℤ◌, ◌≤ℤ◌, pos, neg_ℤ, drop}
use Rattle.cmr_base.specs.Matrix.{entry}
use Rattle.cmr_base.specs.Sums.{sum_over}
use Rattle.cmr_base.proofs.matrix.Matrix.row_sum.Given as goal

-- the sum so far and the sum of the rest add up to the whole sum
abbrev pub invariant-loop-column : goal.invariant-loop-column
invariant-loop-column l = record {
  rest : l.sum +ℤ sum_over (drop l.column-index l.columns) (λ column. entry l.self l.row column) ≡ sum_over l.columns (λ column. entry l.self l.row column);
  low : neg_ℤ (pos l.column-index) ≤ℤ l.sum;
  high : l.sum ≤ℤ pos l.column-index;
}
