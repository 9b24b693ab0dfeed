use Rattle.std.proofs.Common.{◌≡◌, [], replicate}
use Rattle.sparse_matrix.proofs.matrix.SparseMatrix.zero.Given as goal

abbrev pub invariant-loop : goal.invariant-loop
invariant-loop l = l.runs.items ≡ replicate l.counter []
