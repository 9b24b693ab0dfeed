use Rattle.std.proofs.Common.{take}
use Rattle.std.specs.List.{AllByRecursion}
use Rattle.sparse_matrix.specs.SparseRows.{matrix_of_runs}
use Rattle.large_evidence.specs.LargeEvidence.{HasReasonIn}
use Rattle.large_evidence.proofs.checker.have_reasons.Given as goal

abbrev pub invariant-loop-part : goal.invariant-loop-part
invariant-loop-part l = AllByRecursion (HasReasonIn (matrix_of_runs l.matrix)) (take l.part-index l.parts)
