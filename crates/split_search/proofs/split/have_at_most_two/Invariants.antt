use Rattle.std.proofs.Common.{◌<◌, ◌≤◌, ℕ, length}
use Rattle.sparse_matrix.specs.SparseRows.{run_of}
use Rattle.split_search.proofs.split.have_at_most_two.Given as goal

abbrev pub invariant-loop-row : goal.invariant-loop-row
invariant-loop-row l = (row : ℕ) → row < l.row → length (run_of l.matrix row) ≤ 2
