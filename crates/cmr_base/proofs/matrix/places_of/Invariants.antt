use Rattle.cmr_base.proofs.CopiedRows.{AreSomePlaces}
use Rattle.cmr_base.proofs.matrix.places_of.Given as goal

abbrev pub invariant-loop-place : goal.invariant-loop-place
invariant-loop-place l = AreSomePlaces l.columns l.chosen l.place l.places.items
