use Rattle.std.proofs.Common.{ℕ, ◌<◌, ◌*◌}
use Rattle.ghouila.specs.Pivot.{HasNoPivot}
use Rattle.ghouila.proofs.pivots.first_pivot.Given as goal

abbrev pub invariant-loop-chunk : goal.invariant-loop-chunk
invariant-loop-chunk l = (column : ℕ) → column < 64 * l.chunk → HasNoPivot l.work l.left column
