use Rattle.graph_realise.specs.Growing.{AreNear}
use Rattle.graph_realise.proofs.growing.near_sides.Given as goal

abbrev pub invariant-loop-row : goal.invariant-loop-row
invariant-loop-row l = AreNear l.sides l.row l.near.items
