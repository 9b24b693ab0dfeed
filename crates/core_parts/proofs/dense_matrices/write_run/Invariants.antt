use Rattle.std.proofs.Common.{take}
use Rattle.core_parts.specs.DenseRuns.{HasValues}
use Rattle.core_parts.proofs.dense_matrices.write_run.Given as goal

abbrev pub invariant-loop-nonzero : goal.invariant-loop-nonzero
invariant-loop-nonzero l = HasValues l.fn.matrix l.row (take l.nonzero-index l.run) l.matrix
