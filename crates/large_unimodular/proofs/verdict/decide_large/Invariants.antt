use Rattle.sparse_matrix.specs.SparseRows.{matrix_of_runs}
use Rattle.large_unimodular.proofs.PartsSoFar.{IsSoFar}
use Rattle.large_unimodular.proofs.verdict.decide_large.Given as goal

abbrev pub invariant-loop-index : goal.invariant-loop-index
invariant-loop-index g l = IsSoFar l.limit l.pivots (matrix_of_runs l.matrix) l.parts.sets.items l.index l.first_open
