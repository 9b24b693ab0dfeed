use Rattle.std.proofs.Common.{◌≢◌, ◌<◌, ◌∙◌, pos, length, sym, refl, subst, arith}
use Rattle.std.proofs.lemmas.Grind.{get_or_default_zero}
use Rattle.cmr_base.specs.Matrix.{entry}
use Rattle.cmr_base.proofs.EntryBytes.{zero_byte}
use Rattle.cmr_base.proofs.SmallEntries.{entry_as_byte}
use Rattle.camion_sign.specs.Signings.{ShowsPlaceOf}
use Rattle.camion_sign.proofs.EntryTests.{zero_as_byte}
use Rattle.camion_sign.proofs.PartnerSteps.{place_of}
use Rattle.camion_sign.proofs.PassedColumns.{none_forces, place_passed, passed_more}
use Rattle.camion_sign.proofs.Steps.{within}
use Rattle.camion_sign.proofs.signed_columns.SignedColumns.first_forcing.Goals as goal

pub mark-requires-clause-partner : goal.mark-requires-clause-partner
mark-requires-clause-partner c =
    let inside : c.signed.place < length c.args.self.now.columns.items = omega (arith, c.signed-test.true, c.len.ensures) in
    let nonzero = c.requires.signed.signs c.signed.place inside in
    let value = c.index-signed.ensures ∙ get_or_default_zero c.args.self.now.columns.items c.signed.place c.index-signed.result.now inside in
    subst (λ x. x < c.args.matrix.now.width) (sym value) (within c.args.matrix.now c.args.row _ c.requires.places.room.fits.matrix c.requires.row (λ z. nonzero (c.requires.signs.inside c.args.row _ z)))

pub signed-preserved : goal.signed-preserved
signed-preserved c =
    let inside : c.signed.place < length c.args.self.now.columns.items = omega (arith, c.signed-test.true, c.len.ensures) in
    let value = c.index-signed.ensures ∙ get_or_default_zero c.args.self.now.columns.items c.signed.place c.index-signed.result.now inside in
    record {
      knows = c.in_ok-mark.ensures.places;
      few = omega (arith, c.signed-test.true, c.len.ensures);
      none = place_passed c.args.matrix.now c.args.signs.now c.args.row c.args.self.now c.requires.signed c.args.column c.signed.place c.index-signed.result.now value (c.in_ok-mark.ensures.mark.none (zero_byte c.in_ok-mark.mark c.in_ok-mark.ensures.mark.small c.if-mark-ne0.false)) c.signed.invariant.none;
    }

pub returns-then-mark-ne0-clause-found : goal.returns-then-mark-ne0-clause-found
returns-then-mark-ne0-clause-found c =
    let inside : c.signed.place < length c.args.self.now.columns.items = omega (arith, c.signed-test.true, c.len.ensures) in
    let value = c.index-signed.ensures ∙ get_or_default_zero c.args.self.now.columns.items c.signed.place c.index-signed.result.now inside in
    let shows = c.in_ok-mark.ensures.mark in (
      (subst (λ x. entry c.args.signs.now c.args.row x ≢ pos 0) (sym value) (c.requires.signed.signs c.signed.place inside), place_of c.args.matrix.now c.args.signs.now c.args.row c.index-signed.result.now c.args.column c.in_ok-mark.mark shows (λ z. c.if-mark-ne0.true (zero_as_byte c.in_ok-mark.mark z))),
      subst (ShowsPlaceOf c.args.matrix.now c.args.signs.now c.args.row c.index-signed.result.now c.args.column) (sym (entry_as_byte c.in_ok-mark.mark shows.small)) shows,
    )

pub returns-clause-found : goal.returns-clause-found
returns-clause-found c = none_forces c.args.matrix.now c.args.signs.now c.args.row c.args.self.now c.requires.signed c.args.column c.signed.place (omega (arith, c.signed-test.false, c.len.ensures)) c.signed.invariant.none

pub returns-clause-signed : goal.returns-clause-signed
returns-clause-signed c = passed_more c.args.matrix.now c.args.signs.now c.args.row c.args.self.now c.requires.signed c.args.column c.signed.place c.requires.column c.signed.invariant.few c.signed.invariant.none _ refl refl
