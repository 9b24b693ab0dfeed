use Rattle.std.proofs.Common.{◌<◌, ◌≤◌, ◌-◌, ℕ}
use Rattle.chains.specs.SignSteps.{IsUnsignedOne}
use Rattle.camion_sign.specs.SignOrder.{IsForcedBy}
use Rattle.camion_sign.specs.Signings.{KnowsPlaces, KnowsSigned}
use Rattle.camion_sign.proofs.signing.forced_one.Given as goal

abbrev pub invariant-loop-column : goal.invariant-loop-column
invariant-loop-column l = record {
  none : (d : ℕ) → d < l.from → IsUnsignedOne l.matrix l.signs l.row d → (c : ℕ) → ¬ (IsForcedBy l.matrix l.signs l.row d c);
  knows : KnowsPlaces l.matrix l.signs l.row l.places;
  signed : KnowsSigned l.matrix l.signs l.row l.signed;
  inside : l.from ≤ l.matrix.width;
}

abbrev pub decreases-loop-column : goal.decreases-loop-column
decreases-loop-column l = l.matrix.width - l.from
