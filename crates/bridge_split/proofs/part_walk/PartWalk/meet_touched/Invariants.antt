use Rattle.bridge_split.specs.PartNumbers.{IsMeeting}
use Rattle.bridge_split.proofs.part_walk.PartWalk.meet_touched.Given as goal

abbrev pub invariant-loop-other : goal.invariant-loop-other
invariant-loop-other l = IsMeeting l.matrix l.rows l.row l.number l.initial.self l.self l.met l.other-index
