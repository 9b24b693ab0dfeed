use Rattle.std.proofs.Common.{take}
use Rattle.core_parts.specs.PartRuns.{HasRun, placed_run}
use Rattle.core_parts.proofs.part_matrices.copy_run.Given as goal

abbrev pub invariant-loop-nonzero : goal.invariant-loop-nonzero
invariant-loop-nonzero l = HasRun l.fn.part l.row (placed_run l.marks l.places (take l.nonzero-index l.run)) l.part
