use Rattle.std.proofs.Common.{◌<◌, ◌≤◌, ◌-◌, ℕ, List, length, get_or}
use Rattle.camion_sign.specs.SignOrder.{IsPlaceOf}
use Rattle.camion_sign.specs.Signings.{KnowsPlaces}
use Rattle.camion_sign.proofs.signed_columns.SignedColumns.first_forcing.Given as goal

abbrev pub invariant-signed : goal.invariant-signed
invariant-signed l = record {
  knows : KnowsPlaces l.matrix l.signs l.row l.places;
  few : l.place ≤ length l.self.columns.items;
  none : (k : ℕ) → k < l.place → (path : List ℕ) → ¬ (IsPlaceOf l.matrix l.row (get_or l.self.columns.items k 0) l.column path);
}

abbrev pub decreases-signed : goal.decreases-signed
decreases-signed l = length l.self.columns.items - l.place
