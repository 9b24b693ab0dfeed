use Rattle.std.proofs.Common.{◌≡◌, ◌*◌, ◌+ℤ◌, ◌≤ℤ◌, pos, neg_ℤ, drop}
use Rattle.cmr_base.specs.Sums.{sum_over}
use Rattle.sparse_matrix.specs.declared.nonzero.TheConstants.{MAX_SPARSE_LINES}
use Rattle.sparse_matrix.specs.SparseRows.{sparse_entry}
use Rattle.cmr_large.proofs.sums.sum_of.Given as goal

-- the sum so far and the sum of the rest add up to the whole sum
abbrev pub invariant-loop-row : goal.invariant-loop-row
invariant-loop-row l = record {
  rest : l.sum +ℤ sum_over (drop l.row-index l.lines.rows) (λ row. sum_over l.lines.columns (sparse_entry l.matrix row))
      ≡ sum_over l.lines.rows (λ row. sum_over l.lines.columns (sparse_entry l.matrix row));
  low : neg_ℤ (pos (MAX_SPARSE_LINES * l.row-index)) ≤ℤ l.sum;
  high : l.sum ≤ℤ pos (MAX_SPARSE_LINES * l.row-index);
}
