use Rattle.std.proofs.Common.{◌≤◌, ◌-◌, length}
use Rattle.three_sep.proofs.refused_corners.RefusedCorners.place_of.Given as goal

abbrev pub invariant-halving : goal.invariant-halving
invariant-halving l = l.high ≤ length l.self.noted.items

abbrev pub decreases-halving : goal.decreases-halving
decreases-halving l = l.high - l.low
