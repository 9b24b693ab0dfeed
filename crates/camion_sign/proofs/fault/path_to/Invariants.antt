use Rattle.std.proofs.Common.{◌≡◌, ◌<◌, ◌∷◌, [], ◌++◌, length, reverse}
use Rattle.cmr_base.specs.Matrix.{Matrix}
use Rattle.camion_sign.specs.Walks.{HasWalked, place_in}
use Rattle.camion_sign.proofs.fault.path_to.Given as goal

-- the trail to the last column is the trail to this position, followed by the lines so far in reverse order
abbrev pub invariant-loop-place : goal.invariant-loop-place
invariant-loop-place l = (l.place < length l.walk.steps.items) × ((values : Matrix) (w : HasWalked l.matrix values l.fn.start.row l.fn.start.column l.walk) → w.key (place_in l.walk.places.items l.last) ≡ w.key l.place ++ (reverse l.lines.items ++ l.last ∷ []))

abbrev pub decreases-loop-place : goal.decreases-loop-place
decreases-loop-place l = l.place
