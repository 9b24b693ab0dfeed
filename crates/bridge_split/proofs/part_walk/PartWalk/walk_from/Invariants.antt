use Rattle.std.proofs.Common.{◌+◌, get_or}
use Rattle.bridge_split.specs.PartNumbers.{IsWalkingFrom, left_in, number_at}
use Rattle.bridge_split.proofs.part_walk.PartWalk.walk_from.Given as goal

abbrev pub invariant-loop-met : goal.invariant-loop-met
invariant-loop-met l = IsWalkingFrom l.matrix l.rows l.row l.number (get_or l.rows l.place 0) l.fn.self l.self l.met

abbrev pub decreases-loop-met : goal.decreases-loop-met
decreases-loop-met l = left_in l.rows (number_at l.self.part.items) + l.met
