use Rattle.std.proofs.Common.{ℕ, ◌<◌, length, slice_index}
use Rattle.worked_given.proofs.given.indices.Given as goal

abbrev pub invariant-loop-number : goal.invariant-loop-number
invariant-loop-number l = (k : ℕ) → k < length l.set → slice_index l.set k < l.number-counter
