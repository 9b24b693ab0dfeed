use Rattle.std.proofs.Common.{inl, inr, arith}
use Rattle.std.proofs.lemmas.Bool.{cases_lt}
use Rattle.ghouila.proofs.SignsUnique.{column_in}
use Rattle.camion_sign.proofs.PartnerSteps.{column_passed}
use Rattle.camion_sign.proofs.UnsignedOnes.{forced_next, none_until}
use Rattle.camion_sign.proofs.signing.forced_one.Goals as goal

pub loop-column-init : goal.loop-column-init
loop-column-init c =
    let inside = column_in c.args.matrix.now c.args.row c.args.first c.requires.places.room.fits.matrix.rectangular c.requires.first.here.one in
    record {
      none = λ d below one. absurd (c.requires.first.least d below one);
      knows = c.requires.places;
      signed = c.requires.signed;
      inside = omega (arith, inside);
    }

pub returns-in-Some-2-clause-forced : goal.returns-in-Some-2-clause-forced
returns-in-Some-2-clause-forced c =
    let a = c.args.matrix.now in
    let s = c.args.signs.now in
    let next = c.in-Some.ensures in
    forced_next a s c.args.row c.in-Some.column c.in-Some-2.forced next.here (none_until a s c.args.row c.loop-column.from c.in-Some.column c.loop-column.invariant.none next) (rw c.in-Some-2.is at c.in_ok-forced.ensures.forced)

pub loop-column-preserved : goal.loop-column-preserved
loop-column-preserved c =
    let a = c.args.matrix.now in
    let s = c.args.signs.now in
    let next = c.in-Some.ensures in
    let inside = column_in a c.args.row c.in-Some.column c.requires.places.room.fits.matrix.rectangular next.here.one in
    record {
      none = column_passed a s c.args.row c.in-Some.column (λ here. rw c.in_default-2.is at c.in_ok-forced.ensures.forced) (none_until a s c.args.row c.loop-column.from c.in-Some.column c.loop-column.invariant.none next);
      knows = c.in_ok-forced.ensures.places;
      signed = c.in_ok-forced.ensures.signed;
      inside = omega (arith, inside);
    }

pub returns-clause-forced : goal.returns-clause-forced
returns-clause-forced c d one = elim (cases_lt d c.loop-column.from) [
  | inl early ↦ c.loop-column.invariant.none d early one
  | inr late ↦ absurd (c.in_default.ensures d late one)
]
