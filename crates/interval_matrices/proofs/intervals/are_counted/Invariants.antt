use Rattle.std.proofs.Common.{◌<◌, ℕ}
use Rattle.interval_matrices.specs.IntervalRuns.{IsCountedFrom}
use Rattle.interval_matrices.proofs.intervals.are_counted.Given as goal

abbrev pub invariant-loop-nonzero : goal.invariant-loop-nonzero
invariant-loop-nonzero l = (k : ℕ) → k < l.nonzero-index → IsCountedFrom l.first l.value l.run k
