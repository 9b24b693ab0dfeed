use Rattle.std.proofs.Common.{[]}
use Rattle.sparse_matrix.specs.PartTransposed.{IsTransposedTo}
use Rattle.sparse_matrix.proofs.matrix.SparseMatrix.transposed.Given as goal

abbrev pub invariant-loop-row : goal.invariant-loop-row
invariant-loop-row l = IsTransposedTo l.self l.row [] l.other
