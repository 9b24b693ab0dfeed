use Rattle.std.proofs.Common.{◌≡◌, drop}
use Rattle.std.specs.Prelude.{slice_get}
use Rattle.pivots.specs.DrawnPlaces.{row_places}
use Rattle.pivots.proofs.drawn.place_in_row.Given as goal

abbrev pub invariant-loop-column : goal.invariant-loop-column
invariant-loop-column l = slice_get (row_places l.matrix (drop l.column-index l.columns) l.row) l.left ≡ slice_get (row_places l.matrix l.columns l.row) l.number
