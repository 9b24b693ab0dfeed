use Rattle.std.proofs.Common.{◌+◌, ◌*◌, ◌∙◌, ℕ, List, length, take, drop, ap, sym, subst, arith}
use Rattle.cmr_base.specs.Planes.{words_for}
use Rattle.cmr_base.specs.TransposedPlanes.{IsPlaneTransposed, IsRowTransposed}
use Rattle.cmr_base.proofs.ReproducedColumns.{written_back}
use Rattle.cmr_base.proofs.TransposedRows.{room, row_long, row_transposed}
use Rattle.cmr_base.proofs.transposed_plane.transposed_plane.Goals as goal

pub transpose_row-requires-clause-inside : goal.transpose_row-requires-clause-inside
transpose_row-requires-clause-inside c = λ column e.
    let width = c.args.columns in
    let plane = c.args.plane.now in
    let row = c.loop-row.row in
    let words = c.row_words.ensures ∙ ap (λ (n : ℕ). take n (drop (row * n) plane)) c.words_for-from.ensures in
    room width plane c.words_for-to.result c.args.rows row column c.deref_mut.result.now c.row_words.result.now c.loop-row-test.true c.requires.ends words
    (ap length words ∙ row_long width plane c.args.rows row c.loop-row-test.true c.requires.whole)
    (ap length c.deref_mut.ensures.value ∙ c.loop-row.invariant.long ∙ ap (λ (n : ℕ). c.args.columns * n) (sym c.words_for-to.ensures)) e

pub loop-row-preserved : goal.loop-row-preserved
loop-row-preserved c =
    let width = c.args.columns in
    let rows = c.args.rows in
    let plane = c.args.plane.now in
    let row = c.loop-row.row in
    let made = c.loop-row.made.items in
    let after = c.transpose_row.new.made in
    let inside = c.loop-row-test.true in
    let given = c.row_words.result.now in
    let words = c.row_words.ensures ∙ ap (λ (n : ℕ). take n (drop (row * n) plane)) c.words_for-from.ensures in
    let back = written_back c.loop-row.made.len after _ (omega (arith, c.transpose_row.ensures.long, c.deref_mut.ensures.len)) in
    subst (IsPlaneTransposed c.args.columns (words_for c.args.rows) c.args.plane.now (c.loop-row.row + 1)) (sym back)
    (row_transposed width plane (words_for rows) row made after given words (ap length words ∙ row_long width plane rows row inside c.requires.whole) (omega (arith, inside)) c.loop-row.invariant
    (subst (λ (now : List ℕ). IsRowTransposed (words_for c.args.rows) c.loop-row.row c.row_words.result.now (64 * length c.row_words.result.now) now c.transpose_row.new.made) c.deref_mut.ensures.value
    (subst (λ (n : ℕ). IsRowTransposed n c.loop-row.row c.row_words.result.now (64 * length c.row_words.result.now) c.deref_mut.result.now c.transpose_row.new.made) c.words_for-to.ensures c.transpose_row.ensures)))
