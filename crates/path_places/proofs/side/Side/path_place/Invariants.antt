use Rattle.cmr_base.specs.Seeds.{count}
use Rattle.path_places.proofs.ReachedSteps.{AreReached, left}
use Rattle.path_places.proofs.side.Side.path_place.Given as goal

abbrev pub invariant-steps : goal.invariant-steps
invariant-steps l = AreReached l.self l.reached l.more

abbrev pub decreases-steps : goal.decreases-steps
decreases-steps l = count (left l.reached) l.self.matrix.now.width
