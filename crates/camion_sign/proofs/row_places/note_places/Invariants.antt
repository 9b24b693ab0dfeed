use Rattle.std.proofs.Common.{◌≡◌, ◌≢◌, ◌<◌, ◌≤◌, ◌-◌, ℕ}
use Rattle.cmr_base.specs.Matrix.{entry}
use Rattle.camion_sign.specs.Signings.{ShowsPlacesFrom, AreSquare}
use Rattle.camion_sign.proofs.row_places.note_places.Given as goal

abbrev pub invariant-loop-last : goal.invariant-loop-last
invariant-loop-last l = record {
  square : AreSquare l.matrix l.links;
  shows : ShowsPlacesFrom l.matrix l.signs l.start.row l.start.column l.from l.links;
  others : (c d : ℕ) → c ≢ l.start.column → entry l.links c d ≡ entry l.fn.links c d;
  low : l.start.column < l.from;
  inside : l.from ≤ l.matrix.width;
}

abbrev pub decreases-loop-last : goal.decreases-loop-last
decreases-loop-last l = l.matrix.width - l.from
