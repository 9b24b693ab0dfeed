use Rattle.std.proofs.Common.{◌≡◌, drop}
use Rattle.std.specs.Prelude.{slice_get}
use Rattle.pivots.specs.DrawnPlaces.{places_on}
use Rattle.pivots.proofs.drawn.place_numbered.Given as goal

abbrev pub invariant-loop-row : goal.invariant-loop-row
invariant-loop-row l = slice_get (places_on l.matrix (drop l.row-index l.rows) l.columns) l.left ≡ slice_get (places_on l.matrix l.rows l.columns) l.number
