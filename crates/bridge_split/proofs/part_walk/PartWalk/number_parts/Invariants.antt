use Rattle.bridge_split.specs.PartNumbers.{IsBetweenParts}
use Rattle.bridge_split.proofs.part_walk.PartWalk.number_parts.Given as goal

abbrev pub invariant-loop-place : goal.invariant-loop-place
invariant-loop-place l = IsBetweenParts l.matrix l.rows l.row l.count l.place l.self
