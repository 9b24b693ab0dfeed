use Rattle.std.proofs.Common.{◌≡◌, ◌<◌, ◌≤◌, ℕ}
use Rattle.sp_reduce.specs.StayingSides.{IsParallel}
use Rattle.sp_reduce.specs.Changes.{HasForgotten, IsSameAt}
use Rattle.sp_reduce.proofs.side.StayingLines.forget.Given as goal

-- the lines so far have forgotten it, and the others are as they were
abbrev pub invariant-places : goal.invariant-places
invariant-places l = record {
  same : l.self ≡ record l.fn.self { counts = l.self.counts; sums = l.self.sums; minus_sums = l.self.minus_sums; settled = l.self.settled };
  parallel : IsParallel l.self;
  done : (at : ℕ) → at < l.place → HasForgotten l.matrix l.fn.self l.self l.removed at;
  rest : (at : ℕ) → l.place ≤ at → IsSameAt l.fn.self l.self at;
}
