use Rattle.std.proofs.Common.{◌∙◌, ◌<◌, ◌+ℤ◌, ℤ, refl, sym, ap, subst, arith}
use Rattle.cmr_base.specs.Matrix.{with_entry, IsEntry}
use Rattle.cmr_base.specs.Planes.{is_minus}
use Rattle.cmr_base.specs.Signing.{IsSign}
use Rattle.cmr_base.proofs.SignEntries.{sign_is_entry}
use Rattle.cmr_base.proofs.SmallEntries.{entry_as_byte}
use Rattle.ghouila.proofs.SignsUnique.{column_in}
use Rattle.chains.specs.SignSteps.{IsZeroModFour}
use Rattle.camion_sign.specs.SignOrder.{IsNextForced}
use Rattle.camion_sign.specs.Walks.{TwoIf}
use Rattle.chains.specs.declared.step.SignStep.TheVariants.{Forced}
use Rattle.camion_sign.proofs.ForcedSigns.{forced_four, sign_if, signs_before}
use Rattle.camion_sign.proofs.PartnerSteps.{ones_kept}
use Rattle.camion_sign.proofs.PlaceLinks.{known_still}
use Rattle.camion_sign.proofs.SigningStates.{earlier_same, state_more, fewer_more}
use Rattle.camion_sign.proofs.signing.sign_forced.Goals as goal

pub forced-requires-clause-place : goal.forced-requires-clause-place
forced-requires-clause-place c = c.requires.forced.partner.forces.1

pub entry-requires-clause-row : goal.entry-requires-clause-row
entry-requires-clause-row c = omega (arith, c.requires.row, c.requires.state.signs.same_height)

pub entry-requires-clause-column : goal.entry-requires-clause-column
entry-requires-clause-column c =
    let inside : c.args.forced.partner < c.args.matrix.now.width = column_in c.args.matrix.now c.args.row c.args.forced.partner c.requires.places.room.fits.matrix.rectangular (λ z. c.requires.forced.partner.forces.0 (c.requires.state.signs.inside c.args.row c.args.forced.partner z)) in
    omega (arith, inside, c.requires.state.signs.same_width)

pub closing_sign-sign-requires-clause-mark : goal.closing_sign-sign-requires-clause-mark
closing_sign-sign-requires-clause-mark c =
    subst IsSign (sym (entry_as_byte c.args.forced.mark c.requires.forced.mark.small)) (sign_if c.args.forced.mark c.requires.forced.mark.small (λ z. c.requires.forced.mark.none z c.requires.forced.partner.forces.1.0 c.requires.forced.partner.forces.1.1))

pub closing_sign-sign-requires-clause-partner : goal.closing_sign-sign-requires-clause-partner
closing_sign-sign-requires-clause-partner c =
    subst IsSign (sym (entry_as_byte c.entry.result c.entry.ensures.small)) (sign_if c.entry.result c.entry.ensures.small (λ z. c.requires.forced.partner.forces.0 (sym c.entry.ensures.value ∙ z)))

pub set-requires-clause-row : goal.set-requires-clause-row
set-requires-clause-row c = omega (arith, c.requires.row, c.requires.state.signs.same_height)

pub set-requires-clause-column : goal.set-requires-clause-column
set-requires-clause-column c =
    let inside = column_in c.args.matrix.now c.args.row c.args.forced.column c.requires.places.room.fits.matrix.rectangular c.requires.forced.column.here.one in
    omega (arith, inside, c.requires.state.signs.same_width)

pub set-requires-clause-small : goal.set-requires-clause-small
set-requires-clause-small c =
    let small = sign_is_entry c.closing_sign-sign.result c.closing_sign-sign.ensures.sign in
    subst IsEntry (sym (entry_as_byte c.closing_sign-sign.result small)) small

pub returns-clause-state : goal.returns-clause-state
returns-clause-state c =
    let a = c.args.matrix.now in
    let s = c.args.signing.now.signs in
    let row = c.args.row in
    let column = c.args.forced.column in
    let partner = c.args.forced.partner in
    let state = c.requires.state in
    let is = c.requires.places.room.fits.matrix in
    let v = c.closing_sign-sign.result in
    let cycle = c.in_ok-forced.ensures.kept.0 in
    let lines = c.in_ok-forced.ensures.kept.1 in
    let small = sign_is_entry v c.closing_sign-sign.ensures.sign in
    let set = c.set.ensures ∙ ap (with_entry s row column) (entry_as_byte v small) in
    let mark = c.args.forced.mark in
    let place = c.requires.forced.mark.place (λ z. c.requires.forced.mark.none z c.requires.forced.partner.forces.1.0 c.requires.forced.partner.forces.1.1) in
    let next : IsNextForced a s row column cycle v = record {
      here = c.requires.forced.column.here;
      partner = partner;
      signed = c.requires.forced.partner.forces.0;
      cycle_is = lines;
      least_column = c.requires.forced.column.least;
      least_partner = c.requires.forced.partner.least;
      is_sign = c.closing_sign-sign.ensures.sign;
      four = forced_four a s is state.signs row partner column state.turn c.requires.forced.column.here c.requires.forced.partner.forces.0 cycle lines v c.closing_sign-sign.ensures.sign (is_minus mark) place
          (λ sum two. subst (λ (p : ℤ). IsZeroModFour ((p +ℤ v) +ℤ sum)) (entry_as_byte c.entry.result c.entry.ensures.small ∙ c.entry.ensures.value)
          (c.closing_sign-sign.ensures.four sum (subst (λ z. TwoIf (is_minus z) sum) (sym (entry_as_byte mark c.requires.forced.mark.small)) two)));
    } in
    state_more a s is row column v c.closing_sign-sign.ensures.sign state.signs state.turn c.requires.forced.column.here
    state.steps (Forced row column cycle) c.forced.new.self state.lead (state.turn, next) refl (c.in_ok-forced.ensures.kept.2 state.steps state.kept) c.set.new.self set c.args.signing.now.signed _ state.signed c.in_ok-push.ensures.items refl

pub returns-clause-fewer : goal.returns-clause-fewer
returns-clause-fewer c =
    let v = c.closing_sign-sign.result in
    let set = c.set.ensures ∙ ap (with_entry c.args.signing.now.signs c.args.row c.args.forced.column) (entry_as_byte v (sign_is_entry v c.closing_sign-sign.ensures.sign)) in
    fewer_more c.args.matrix.now c.args.signing.now.signs c.requires.places.room.fits.matrix c.args.row c.args.forced.column v c.closing_sign-sign.ensures.sign c.requires.state.signs c.requires.state.turn c.requires.forced.column.here c.set.new.self set

pub returns-clause-keeps : goal.returns-clause-keeps
returns-clause-keeps c =
    let v = c.closing_sign-sign.result in
    let set = c.set.ensures ∙ ap (with_entry c.args.signing.now.signs c.args.row c.args.forced.column) (entry_as_byte v (sign_is_entry v c.closing_sign-sign.ensures.sign)) in
    ones_kept c.args.matrix.now c.args.signing.now.signs c.set.new.self c.requires.places.room.fits.matrix c.requires.state.signs c.args.row c.args.forced.column v c.closing_sign-sign.ensures.sign c.requires.forced.column.here set

pub returns-clause-places : goal.returns-clause-places
returns-clause-places c =
    let v = c.closing_sign-sign.result in
    let set = c.set.ensures ∙ ap (with_entry c.args.signing.now.signs c.args.row c.args.forced.column) (entry_as_byte v (sign_is_entry v c.closing_sign-sign.ensures.sign)) in
    let state = returns-clause-state c in
    known_still c.args.matrix.now c.args.signing.now.signs c.set.new.self c.args.row c.forced.new.places c.in_ok-forced.ensures.places (signs_before c.args.matrix.now c.set.new.self c.args.row state.signs state.turn)
    (earlier_same c.args.signing.now.signs c.set.new.self c.args.row c.args.forced.column v set)
