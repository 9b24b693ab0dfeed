use Rattle.std.proofs.Common.{◌<◌, ◌≤◌, ◌-◌, ℕ}
use Rattle.camion_sign.specs.SignOrder.{IsForcedBy}
use Rattle.camion_sign.specs.Signings.{KnowsPlaces}
use Rattle.camion_sign.proofs.signing.least_partner.Given as goal

abbrev pub invariant-loop-signed : goal.invariant-loop-signed
invariant-loop-signed l = record {
  none : (c : ℕ) → c < l.from → ¬ (IsForcedBy l.matrix l.signs l.row l.column c);
  knows : KnowsPlaces l.matrix l.signs l.row l.places;
  inside : l.from ≤ l.matrix.width;
}

abbrev pub decreases-loop-signed : goal.decreases-loop-signed
decreases-loop-signed l = l.matrix.width - l.from
