use Rattle.std.proofs.Common.{◌*◌, ◌∙◌, ℕ, List, length, take, drop, get_or, ap, subst}
use Rattle.cmr_base.specs.Planes.{words_for}
use Rattle.cmr_base.specs.Runs.{IsRowChosen}
use Rattle.cmr_base.proofs.RunRows.{row_chosen}
use Rattle.cmr_base.proofs.runs.chosen_plane.Goals as goal

pub loop-place-preserved : goal.loop-place-preserved
loop-place-preserved c =
    let width = c.args.width in
    let plane = c.args.plane.now in
    let rows = c.args.rows.now in
    let columns = c.args.columns.now in
    let place = c.loop-place.place in
    let before = c.loop-place.made.items in
    let after = c.add_row.new.made.items in
    let words = c.row_words-words.ensures ∙ ap (λ (n : ℕ). take n (drop (get_or rows place 0 * n) plane)) c.words_for-from.ensures in
    row_chosen width plane rows columns place before after c.loop-place.invariant c.loop-place-test.true c.requires.columns
    (subst (λ (ws : List ℕ). IsRowChosen ws columns (64 * (place * words_for (length columns))) (length columns) before after) words
    (subst (λ (n : ℕ). IsRowChosen c.row_words-words.result.now columns (64 * (place * n)) (length columns) before after) c.words_for-to.ensures c.add_row.ensures))
