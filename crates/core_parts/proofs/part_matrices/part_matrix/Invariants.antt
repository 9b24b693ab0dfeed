use Rattle.core_parts.proofs.PartMatrices.{IsCopiedBelow}
use Rattle.core_parts.proofs.part_matrices.part_matrix.Given as goal

abbrev pub invariant-loop-place : goal.invariant-loop-place
invariant-loop-place l = IsCopiedBelow l.matrix l.lines l.marks l.places l.place l.part
