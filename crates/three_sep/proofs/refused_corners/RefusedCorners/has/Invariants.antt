use Rattle.std.proofs.Common.{◌≡◌, ◌-◌, length}
use Rattle.three_sep.proofs.refused_corners.RefusedCorners.has.Given as goal

abbrev pub invariant-earlier : goal.invariant-earlier
invariant-earlier l = l.self.matrix.now ≡ l.fn.self.matrix.now

abbrev pub decreases-earlier : goal.decreases-earlier
decreases-earlier l = length l.self.noted.items - l.self.next
