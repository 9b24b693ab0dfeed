use Rattle.std.proofs.Common.{◌≡◌, ◌≤◌, ◌*◌, length, take}
use Rattle.pivots.specs.DrawnPlaces.{places_on}
use Rattle.pivots.proofs.drawn.count_places.Given as goal

abbrev pub invariant-loop-row : goal.invariant-loop-row
invariant-loop-row l = record {
  counted : l.count ≡ length (places_on l.matrix (take l.row-index l.rows) l.columns);
  few : l.count ≤ 1000 * l.row-index;
}
