use Rattle.std.proofs.Common.{◌≢◌, ◌<◌, ◌≤◌, ℕ, get_or}
use Rattle.sp_reduce.proofs.side.has_sum.Given as goal

abbrev pub invariant-places : goal.invariant-places
invariant-places l = (at : ℕ) → l.from ≤ at → at < l.place → get_or l.sums at 0 ≢ l.sum
