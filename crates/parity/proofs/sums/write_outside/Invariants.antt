use Rattle.std.proofs.Common.{◌≡◌, ◌<◌, ℕ, get_or}
use Rattle.std.specs.Prelude.{bit_and, bit_xor}
use Rattle.parity.proofs.sums.write_outside.Given as goal

abbrev pub invariant-loop-place : goal.invariant-loop-place
invariant-loop-place l = (k : ℕ) → k < l.place → get_or l.into k 0 ≡ bit_xor (get_or l.bits k 0) (bit_and (get_or l.bits k 0) (get_or l.excluded k 0))
