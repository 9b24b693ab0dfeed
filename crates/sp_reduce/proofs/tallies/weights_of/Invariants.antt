use Rattle.std.proofs.Common.{◌≡◌, ◌<◌, ◌≤◌, ℕ, cond, false, length, get_or}
use Rattle.sp_reduce.specs.StayingSides.{weight}
use Rattle.sp_reduce.proofs.tallies.weights_of.Given as goal

-- the lines so far have their weights
abbrev pub invariant-lines : goal.invariant-lines
invariant-lines l = record {
  inside : l.line ≤ length l.marks;
  many : length l.weights.items ≡ l.line;
  exact : (k : ℕ) → k < l.line → get_or l.weights.items k 0 ≡ cond (get_or l.marks k false) (weight k) 0;
}
