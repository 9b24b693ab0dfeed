use Rattle.std.proofs.Common.{◌<◌, ℕ}
use Rattle.sparse_matrix.specs.SparseRows.{run_of, value_in}
use Rattle.interval_matrices.specs.Intervals.{IsInterval}
use Rattle.interval_matrices.proofs.intervals.has_interval_rows.Given as goal

abbrev pub invariant-loop-row : goal.invariant-loop-row
invariant-loop-row l = (row : ℕ) → row < l.row → IsInterval (value_in (run_of l.matrix row))
