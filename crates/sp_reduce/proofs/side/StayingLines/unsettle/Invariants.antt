use Rattle.std.proofs.Common.{◌≡◌, ◌<◌, ◌≤◌, ℕ, false, length, get_or}
use Rattle.sp_reduce.specs.Changes.{IsUnsettled}
use Rattle.sp_reduce.proofs.side.StayingLines.unsettle.Given as goal

-- the lines so far are judged, and the others are as they were
abbrev pub invariant-places : goal.invariant-places
invariant-places l = record {
  same : l.self ≡ record l.fn.self { settled = l.self.settled };
  long : length l.self.settled.items ≡ length l.fn.self.stays.items;
  done : (at : ℕ) → at < l.place → IsUnsettled l.binary l.matrix l.fn.self l.self l.across l.changed at;
  rest : (at : ℕ) → l.place ≤ at → get_or l.self.settled.items at false ≡ get_or l.fn.self.settled.items at false;
}
