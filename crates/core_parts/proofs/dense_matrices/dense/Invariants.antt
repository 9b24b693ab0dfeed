use Rattle.core_parts.proofs.DenseValues.{IsDenseBelow}
use Rattle.core_parts.proofs.dense_matrices.dense.Given as goal

abbrev pub invariant-loop-row : goal.invariant-loop-row
invariant-loop-row l = IsDenseBelow l.sparse l.row l.matrix
