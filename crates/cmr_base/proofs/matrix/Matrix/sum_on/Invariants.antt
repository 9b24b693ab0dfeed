use Rattle.std.proofs.Common.{◌≡◌, ◌*◌, ◌+ℤ◌, ◌≤ℤ◌, pos, neg_ℤ, drop}
use Rattle.cmr_base.specs.declared.limits.TheConstants.{MAX_COLUMNS}
use Rattle.cmr_base.specs.Matrix.{entry}
use Rattle.cmr_base.specs.Sums.{sum_over}
use Rattle.cmr_base.proofs.matrix.Matrix.sum_on.Given as goal

-- the sum so far and the sum of the rest add up to the whole sum
abbrev pub invariant-loop-row : goal.invariant-loop-row
invariant-loop-row l = record {
  rest : l.sum +ℤ sum_over (drop l.row-index l.rows) (λ row. sum_over l.columns (λ column. entry l.self row column)) ≡ sum_over l.rows (λ row. sum_over l.columns (λ column. entry l.self row column));
  low : neg_ℤ (pos (MAX_COLUMNS * l.row-index)) ≤ℤ l.sum;
  high : l.sum ≤ℤ pos (MAX_COLUMNS * l.row-index);
}
