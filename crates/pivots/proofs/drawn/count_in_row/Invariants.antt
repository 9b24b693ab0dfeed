use Rattle.std.proofs.Common.{◌≡◌, ◌≤◌, length, take}
use Rattle.pivots.specs.DrawnPlaces.{row_places}
use Rattle.pivots.proofs.drawn.count_in_row.Given as goal

abbrev pub invariant-loop-column : goal.invariant-loop-column
invariant-loop-column l = record {
  counted : l.count ≡ length (row_places l.matrix (take l.column-index l.columns) l.row);
  few : l.count ≤ l.column-index;
}
