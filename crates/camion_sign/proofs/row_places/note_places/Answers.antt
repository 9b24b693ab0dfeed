use Rattle.std.proofs.Common.{◌≡◌, ◌≢◌, ◌∙◌, ◌<◌, ◌+◌, ℕ, pos, to_z, of_z, w8, sym, ap, subst, arith}
use Rattle.std.proofs.lemmas.Int.{ints}
use Rattle.cmr_base.specs.Matrix.{Matrix, entry, with_entry}
use Rattle.cmr_base.proofs.Booleans.{nonzero_is}
use Rattle.cmr_base.specs.Trees.{support}
use Rattle.camion_sign.specs.Signings.{AreSquare, ShowsPlacesFrom}
use Rattle.camion_sign.proofs.PlaceLinks.{note_others, note_square, note_shows, note_zeros}
use Rattle.camion_sign.proofs.row_places.note_places.Goals as goal

pub loop-last-preserved : goal.loop-last-preserved
loop-last-preserved c =
    let m = c.args.matrix.now in
    let s = c.args.signs.now in
    let t = c.args.start.row in
    let x = c.args.start.column in
    let last = c.in-Some.last in
    let links = c.loop-last.links in
    let before = c.loop-last.invariant in
    let found = c.in-Some.ensures.first in
    let inside : last < m.width = subst (λ (a : Matrix). last < a.width) c.by_rows.ensures.matrix found.1 in
    let one : entry m t last ≢ pos 0 = nonzero_is (entry m t last) (sym (ap (λ (a : Matrix). support a t last) c.by_rows.ensures.matrix) ∙ found.2) in
    let here = note_zeros m s links t x c.loop-last.from before.square before.shows c.by_rows.result.now last c.by_rows.ensures.matrix found.3 in
    let z = c.place_mark.result in
    let small = c.place_mark.ensures.small in
    let low = small.low in
    let high = small.high in
    let kept : to_z w8 (of_z w8 z) ≡ z = omega (arith, ints) in
    let shows = c.place_mark.ensures in
    let State : Matrix → Type 0 = λ new. AreSquare m new × ShowsPlacesFrom m s t x (last + 1) new × ((a b : ℕ) → a ≢ x → entry new a b ≡ entry c.args.links.now a b) in
    let state : State c.set.new.self = subst State (sym (c.set.ensures ∙ ap (with_entry links x last) kept)) (
      note_square m s links t x last before.square here z small c.requires.column inside,
      note_shows m s links t x last before.square here z small c.requires.column inside shows,
      λ a b d. note_others m s links t x last before.square here z small c.requires.column inside a b d ∙ before.others a b d,
    ) in
    record {
      square = state.0;
      shows = state.1;
      others = state.2;
      low = omega (arith, before.low, found.0);
      inside = omega (arith, inside);
    }

pub place_mark-requires-clause-order : goal.place_mark-requires-clause-order
place_mark-requires-clause-order c = omega (arith, c.loop-last.invariant.low, c.in-Some.ensures.first.0)

pub place_mark-requires-clause-width : goal.place_mark-requires-clause-width
place_mark-requires-clause-width c = subst (λ (a : Matrix). c.in-Some.last < a.width) c.by_rows.ensures.matrix c.in-Some.ensures.first.1

pub place_mark-requires-clause-last : goal.place_mark-requires-clause-last
place_mark-requires-clause-last c = nonzero_is (entry c.args.matrix.now c.args.start.row c.in-Some.last) (sym (ap (λ (a : Matrix). support a c.args.start.row c.in-Some.last) c.by_rows.ensures.matrix) ∙ c.in-Some.ensures.first.2)

pub returns-clause-shows : goal.returns-clause-shows
returns-clause-shows c =
    let before = c.loop-last.invariant in
    note_zeros c.args.matrix.now c.args.signs.now c.loop-last.links c.args.start.row c.args.start.column c.loop-last.from before.square before.shows c.by_rows.result.now c.args.matrix.now.width c.by_rows.ensures.matrix (λ y up below. c.in_default.ensures.first y up)
