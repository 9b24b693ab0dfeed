use Rattle.std.proofs.Common.{pos, inl, inr, refl, rules, arith}
use Rattle.std.proofs.lemmas.Result.{IfOk-weaker}
use Rattle.cmr_base.specs.Matrix.{IsEntry}
use Rattle.camion_sign.proofs.PlaceLinks.{apart_none, mark_none, mark_none_back}
use Rattle.camion_sign.proofs.row_places.RowPlaces.mark.Goals as goal

pub returns-then-not-are_joined-clause-mark : goal.returns-then-not-are_joined-clause-mark
returns-then-not-are_joined-clause-mark c =
    let small : IsEntry (pos 0) = search rules in
    record { small = small; place = λ h. absurd (h refl); none = λ _. apart_none c.args.matrix.now c.args.row c.args.column c.args.partner (c.are_joined.ensures c.if-not-are_joined.true) c.requires.places.room.fits.matrix }

pub returns-then-partner-column-clause-mark : goal.returns-then-partner-column-clause-mark
returns-then-partner-column-clause-mark c =
    IfOk-weaker c.mark_from.result _ _
    (λ mark shows. record { small = shows.small; place = λ h. inl (shows.place h); none = mark_none c.args.matrix.now c.args.signs.now c.args.row c.args.partner c.args.column mark c.if-partner-column.true shows }) c.mark_from.ensures.shows

pub returns-else-partner-column-clause-mark : goal.returns-else-partner-column-clause-mark
returns-else-partner-column-clause-mark c =
    IfOk-weaker c.mark_from-else-partner-column.result _ _
    (λ mark shows. record { small = shows.small; place = λ h. inr (shows.place h); none = mark_none_back c.args.matrix.now c.args.signs.now c.args.row c.args.column c.args.partner mark (omega (arith, c.requires.other, c.if-partner-column.false)) shows })
    c.mark_from-else-partner-column.ensures.shows
