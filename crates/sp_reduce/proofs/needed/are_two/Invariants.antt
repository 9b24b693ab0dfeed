use Rattle.std.proofs.Common.{◌≡◌, ◌<◌, ℕ, get_or}
use Rattle.sp_reduce.proofs.needed.are_two.Given as goal

-- the counts so far are 2
abbrev pub invariant-counts : goal.invariant-counts
invariant-counts l = (at : ℕ) → at < l.count-index → get_or l.counts at 0 ≡ 2
