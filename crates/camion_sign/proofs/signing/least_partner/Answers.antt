use Rattle.std.proofs.Common.{◌∙◌, sym, ap, subst, arith}
use Rattle.cmr_base.specs.Matrix.{entry}
use Rattle.cmr_base.proofs.Booleans.{nonzero_is}
use Rattle.cmr_base.proofs.EntryBytes.{zero_byte}
use Rattle.cmr_base.proofs.SmallEntries.{entry_as_byte}
use Rattle.camion_sign.specs.Signings.{ShowsPlaceOf}
use Rattle.camion_sign.proofs.EntryTests.{zero_as_byte}
use Rattle.camion_sign.proofs.PartnerSteps.{none_before, one_passed, place_of}
use Rattle.camion_sign.proofs.signing.least_partner.Goals as goal

pub loop-signed-init : goal.loop-signed-init
loop-signed-init c = record { none = λ x l. absurd (omega (arith, l)); knows = c.requires.places; inside = omega arith }

pub next_nonzero-requires-clause-row : goal.next_nonzero-requires-clause-row
next_nonzero-requires-clause-row c = omega (arith, c.requires.row, c.requires.signs.same_height)

pub returns-then-signed-found-clause-partner : goal.returns-then-signed-found-clause-partner
returns-then-signed-found-clause-partner c = (
  record {
    forces = c.requires.found.0;
    least = λ x l. none_before c.args.matrix.now c.args.signs.now c.args.row c.args.column c.loop-signed.from c.loop-signed.invariant.none c.in-Some.signed c.in-Some.ensures.first.3 x (omega (arith, l, c.if-signed-found.true));
  },
  c.requires.found.1,
)

pub mark-requires-clause-partner : goal.mark-requires-clause-partner
mark-requires-clause-partner c = omega (arith, c.in-Some.ensures.first.1, c.requires.signs.same_width)

pub mark-requires-clause-other : goal.mark-requires-clause-other
mark-requires-clause-other c e =
    nonzero_is (entry c.args.signs.now c.args.row c.in-Some.signed) c.in-Some.ensures.first.2 (ap (entry c.args.signs.now c.args.row) e ∙ c.requires.here.no_sign)

pub mark-requires-clause-first : goal.mark-requires-clause-first
mark-requires-clause-first c = c.requires.here.one

pub mark-requires-clause-last : goal.mark-requires-clause-last
mark-requires-clause-last c z =
    nonzero_is (entry c.args.signs.now c.args.row c.in-Some.signed) c.in-Some.ensures.first.2 (c.requires.signs.inside c.args.row c.in-Some.signed z)

pub returns-then-mark-ne0-clause-partner : goal.returns-then-mark-ne0-clause-partner
returns-then-mark-ne0-clause-partner c =
    let a = c.args.matrix.now in
    let s = c.args.signs.now in
    let shows = c.in_ok-mark.ensures.mark in
    let signed = c.in-Some.signed in (
      record {
        forces = (
          nonzero_is (entry s c.args.row signed) c.in-Some.ensures.first.2,
          place_of a s c.args.row signed c.args.column c.in_ok-mark.mark shows (λ z. c.if-mark-ne0.true (zero_as_byte c.in_ok-mark.mark z)),
        );
        least = none_before a s c.args.row c.args.column c.loop-signed.from c.loop-signed.invariant.none signed c.in-Some.ensures.first.3;
      },
      subst (ShowsPlaceOf a s c.args.row signed c.args.column) (sym (entry_as_byte c.in_ok-mark.mark shows.small)) shows,
    )

pub loop-signed-preserved : goal.loop-signed-preserved
loop-signed-preserved c =
    let shows = c.in_ok-mark.ensures.mark in
    let inside = c.in-Some.ensures.first.1 in
    record {
      none = one_passed c.args.matrix.now c.args.signs.now c.args.row c.args.column c.loop-signed.from c.loop-signed.invariant.none c.in-Some.signed c.in-Some.ensures.first.3
          (λ forced. shows.none (zero_byte c.in_ok-mark.mark shows.small c.if-mark-ne0.false) forced.1.0 forced.1.1);
      knows = c.in_ok-mark.ensures.places;
      inside = omega (arith, inside, c.requires.signs.same_width);
    }

pub returns-clause-partner : goal.returns-clause-partner
returns-clause-partner c = (
  record {
    forces = c.requires.found.0;
    least = none_before c.args.matrix.now c.args.signs.now c.args.row c.args.column c.loop-signed.from c.loop-signed.invariant.none c.args.found.column (λ x up below. c.in_default.ensures.first x up);
  },
  c.requires.found.1,
)
