use Rattle.std.proofs.Common.{ℕ, ◌<◌}
use Rattle.sparse_matrix.specs.SparseRows.{run_of}
use Rattle.two_nonzeros.specs.Cancelling.{Cancels, sign_at}
use Rattle.two_nonzeros.proofs.split.first_uncancelled.Given as goal

abbrev pub invariant-loop-column : goal.invariant-loop-column
invariant-loop-column l = (column : ℕ) → column < l.column → Cancels (sign_at l.minus) (run_of l.columns column)
