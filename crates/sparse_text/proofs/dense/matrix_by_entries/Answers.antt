use Rattle.std.proofs.Common.{◌≡◌, ◌<◌, ◌≤◌, ◌*◌, ◌+◌, ◌/◌, ◌%◌, ◌++◌, ◌∷◌, [], ◌∙◌, ℕ, ℤ, pos, false, Ok, SFits, ap, ap₂, arith, of_z, refl, rules, subst, sym, to_z, w8}
use Rattle.std.proofs.lemmas.Int.{to_z-of_z}
use Rattle.std.proofs.lemmas.List.{get_or_past, length_push}
use Rattle.cmr_base.specs.Matrix.{Matrix}
use Rattle.text_fields.specs.Reading.{another, fields}
use Rattle.text_fields.proofs.Times.{goes_on, is_done}
use Rattle.matrix_text.specs.declared.error.TextKind.TheVariants.{Short}
use Rattle.matrix_text.specs.Values.{entry_in}
use Rattle.sparse_matrix.specs.SparseRows.{sparse_entry}
use Rattle.sparse_text.specs.WrittenEntries.{HasNewEntry}
use Rattle.sparse_text.proofs.DenseEntries.{matrix_of_entries, one_more_entry}
use Rattle.sparse_text.proofs.PlaceNumbers.{place_of}
use Rattle.sparse_text.proofs.dense.matrix_by_entries.Goals as goal

pub write_entry-requires-clause-free : goal.write_entry-requires-clause-free
write_entry-requires-clause-free c =
    let now = c.loop-place.invariant in
    let place = c.loop-place.place in
    let columns = c.args.columns in
    let inside : place < c.args.rows * columns = subst (λ (end : ℕ). place < end) (ap₂ (λ (m n : ℕ). m * n) c.from.ensures c.from-2.ensures) c.loop-place-test.true in
    let at = place_of c.args.rows columns place inside in
    ap₂ (λ (m n : ℕ). sparse_entry c.loop-place.matrix (place / m) (place % n)) c.from-in-loop-place.ensures c.from-in-loop-place-2.ensures
    ∙ now.3.entries (place / columns) (place % columns) at.0
    ∙ get_or_past now.0 (place / columns * columns + place % columns) (pos 0) (omega (arith, at.1, now.2))

pub loop-place-preserved : goal.loop-place-preserved
loop-place-preserved c =
    let step = another Short (entry_in false) in
    let now = c.loop-place.invariant in
    let place = c.loop-place.place in
    let columns = c.args.columns in
    let count = c.args.rows * columns in
    let total = fields Short (entry_in false) count c.args.words.now in
    let value = c.in_ok-value.value in
    let fits : SFits w8 value = search rules in
    let inside : place < count = subst (λ (end : ℕ). place < end) (ap₂ (λ (m n : ℕ). m * n) c.from.ensures c.from-2.ensures) c.loop-place-test.true in
    let at = place_of c.args.rows columns place inside in
    let stored = to_z w8 (of_z w8 value) in
    let old = c.loop-place.matrix in
    let new = c.write_entry.new.matrix in
    let row_is = c.from-in-loop-place.ensures in
    let column_is = c.from-in-loop-place-2.ensures in
    let in_row = subst (λ (size : ℕ). HasNewEntry (place / size) (place % c.from-in-loop-place-2.result) stored old new) row_is c.in_ok-write_entry.ensures.entry in
    let in_column = subst (λ (size : ℕ). HasNewEntry (place / columns) (place % size) stored old new) column_is in_row in
    let written = subst (λ (entry : ℤ). HasNewEntry (place / columns) (place % columns) entry old new) (to_z-of_z w8 value fits) in_column in (
      now.0 ++ value ∷ [],
      goes_on step count place now.0 c.loop-place.words total inside (now.0 ++ value ∷ []) c.entry.new.words (rw c.in_ok-value.ensures.read refl) now.1,
      length_push now.0 value ∙ ap (λ n. n + 1) now.2,
      one_more_entry c.args.rows columns now.0 old now.3 (place / columns) (place % columns) value new at.0 (at.1 ∙ sym now.2) written,
    )

pub returns : goal.returns
returns c =
    let step = another Short (entry_in false) in
    let now = c.loop-place.invariant in
    let count = c.args.rows * c.args.columns in
    let end : c.from.result * c.from-2.result ≡ count = ap₂ (λ (m n : ℕ). m * n) c.from.ensures c.from-2.ensures in
    let past : count ≤ c.loop-place.place = subst (λ (end : ℕ). end ≤ c.loop-place.place) end c.loop-place-test.false in
    let within : c.loop-place.place ≤ count = subst (λ (end : ℕ). c.loop-place.place ≤ end) end c.loop-place.auto.place-end in
    let done = is_done step count c.loop-place.place now.0 c.loop-place.words (fields Short (entry_in false) count c.args.words.now) past now.1 in
    let same = matrix_of_entries c.args.rows c.args.columns now.0 c.loop-place.matrix now.3 c.rows-rows.ensures.shape (omega (arith, now.2, past, within)) in
    rw done (ap (λ (m : Matrix). Ok (m, c.loop-place.words)) (sym same))
