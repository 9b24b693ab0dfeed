use Rattle.std.proofs.Common.{◌≡◌, ℕ, MatchOption}
use Rattle.chains.specs.SignSteps.{IsUnsignedOne}
use Rattle.camion_sign.specs.Signings.{IsAtRow, IsFirstUnsigned, KnowsPlaces, unsigned_before}
use Rattle.camion_sign.proofs.signing.sign_row.Given as goal

abbrev pub invariant-ones : goal.invariant-ones
invariant-ones l = record {
  state : IsAtRow l.matrix l.row l.signing;
  knows : KnowsPlaces l.matrix l.signing.signs l.row l.places;
  flag : l.signing.steps.are_kept ≡ l.fn.signing.steps.are_kept;
  first : MatchOption l.next ((d : ℕ) → ¬ (IsUnsignedOne l.matrix l.signing.signs l.row d)) (IsFirstUnsigned l.matrix l.signing.signs l.row);
}

abbrev pub decreases-ones : goal.decreases-ones
decreases-ones l = unsigned_before l.matrix l.signing.signs l.row l.matrix.width
