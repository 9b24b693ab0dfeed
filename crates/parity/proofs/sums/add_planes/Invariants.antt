use Rattle.std.proofs.Common.{◌≡◌, ◌≤◌, ◌<◌, ℕ, get_or}
use Rattle.std.specs.Prelude.{bit_and, bit_xor}
use Rattle.parity.proofs.sums.add_planes.Given as goal

abbrev pub invariant-loop-place : goal.invariant-loop-place
invariant-loop-place l = record {
  ones_added : (k : ℕ) → k < l.place → get_or l.ones k 0 ≡ bit_xor (get_or l.initial.ones k 0) (get_or l.support k 0);
  ones_same : (k : ℕ) → l.place ≤ k → get_or l.ones k 0 ≡ get_or l.initial.ones k 0;
  twos_added : (k : ℕ) → k < l.place → get_or l.twos k 0 ≡ bit_xor (get_or l.initial.twos k 0) (bit_xor (bit_and (get_or l.initial.ones k 0) (get_or l.support k 0)) (get_or l.minus k 0));
  twos_same : (k : ℕ) → l.place ≤ k → get_or l.twos k 0 ≡ get_or l.initial.twos k 0;
}
