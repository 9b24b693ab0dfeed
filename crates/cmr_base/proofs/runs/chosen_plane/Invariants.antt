use Rattle.cmr_base.specs.Runs.{IsPlaneChosen}
use Rattle.cmr_base.proofs.runs.chosen_plane.Given as goal

abbrev pub invariant-loop-place : goal.invariant-loop-place
invariant-loop-place l = IsPlaneChosen l.fn.width l.plane l.rows l.columns l.place l.made.items
