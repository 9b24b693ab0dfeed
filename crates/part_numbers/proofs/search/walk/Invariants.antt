use Rattle.std.proofs.Common.{◌+◌, ◌-◌, length}
use Rattle.part_numbers.specs.PartSearches.{AreFollowedTo, GrowsPart, ReachesLines}
use Rattle.part_numbers.proofs.search.walk.Given as goal

abbrev pub invariant-lines : goal.invariant-lines
invariant-lines l = GrowsPart l.rows l.core l.part l.search × ReachesLines l.part l.fn.search l.search × AreFollowedTo l.rows l.core l.search l.place

abbrev pub decreases-lines : goal.decreases-lines
decreases-lines l = (length l.rows.runs + l.rows.width) - l.place
