use Rattle.std.proofs.Common.{◌≡◌, ◌<◌, ◌≤◌, ℕ, length}
use Rattle.interval_matrices.specs.IntervalRuns.{nonzero_at}
use Rattle.interval_matrices.proofs.intervals.first_line.Given as goal

abbrev pub invariant-loop-nonzero : goal.invariant-loop-nonzero
invariant-loop-nonzero l = ((place : ℕ) × (place < length l.run) × ((nonzero_at l.run place).line ≡ l.first))
    × ((k : ℕ) → k < l.nonzero-index → l.first ≤ (nonzero_at l.run k).line)
