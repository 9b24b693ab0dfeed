use Rattle.std.proofs.Common.{◌-◌, ◌++◌, ◌∷◌, [], ℕ, ℤ, Bool, List, false, Ok, Result, SFits, ap, refl, rules, subst, sym, w8}
use Rattle.std.proofs.lemmas.Int.{to_z-of_z}
use Rattle.std.proofs.lemmas.Result.{err_from_is_err_and}
use Rattle.cmr_base.specs.Matrix.{Matrix}
use Rattle.text_fields.specs.TextWords.{Text}
use Rattle.text_fields.specs.Reading.{Fault, times}
use Rattle.text_fields.proofs.Fields.{bind_fails}
use Rattle.text_fields.proofs.Times.{all_to_come, ends, goes_on, is_done}
use Rattle.matrix_text.specs.declared.error.TextKind.{TextKind}
use Rattle.matrix_text.specs.Sparse.{Triple, another_triple, matrix_of_triples}
use Rattle.matrix_text.proofs.Triples.{place_fails, place_new, triple_made, value_fails}
use Rattle.sparse_text.specs.NamedPositions.{has_position}
use Rattle.sparse_text.specs.WrittenEntries.{HasNewEntry}
use Rattle.sparse_text.proofs.SparseTriples.{AreTriplesOf, are_taken, free_entry, matrix_of_read, no_triples, one_more_triple}
use Rattle.sparse_text.proofs.sparse.matrix_by_triples.Goals as goal

pub loop-init : goal.loop-init
loop-init c =
    let step = another_triple false c.args.rows c.args.columns in
    let total = times step c.args.count [] c.args.words.now in (
      [],
      all_to_come step c.args.count 0 [] c.args.words.now total refl,
      subst (AreTriplesOf c.args.rows c.args.columns c.new-others.result []) (sym c.in_ok-matrix.ensures) (no_triples c.args.rows c.args.columns c.new-others.result c.new-others.ensures.empty),
    )

pub returns-in_err-row : goal.returns-in_err-row
returns-in_err-row c =
    let step = another_triple false c.args.rows c.args.columns in
    let total = times step c.args.count [] c.args.words.now in
    let now = c.loop.invariant in
    let is_taken : ℕ → ℕ → Bool = λ row column. has_position c.loop.matrix c.loop.others (row - 1) (column - 1) in
    let taken = are_taken c.args.rows c.args.columns c.loop.others now.0 c.loop.matrix now.2 c.requires.columns in
    let error = err_from_is_err_and c.from_residual-in_err-row.result c.from_residual-in_err-row.ensures.1 in
    let fault = c.in_err-row.field-0.0 in
    let failed = place_fails false c.args.rows c.args.columns is_taken now.0 taken c.loop.words fault c.in_err-row.ensures.read in
    let made : List Triple × Text → Result (Matrix × Text) (Fault TextKind) = λ triples. Ok (matrix_of_triples c.args.rows c.args.columns triples.0, triples.1) in
    rw (error.1, error.2) (bind_fails fault total made (ends step c.args.count c.loop.counter now.0 c.loop.words total c.loop-test.true fault failed now.1))

pub returns-in_err-value : goal.returns-in_err-value
returns-in_err-value c =
    let step = another_triple false c.args.rows c.args.columns in
    let total = times step c.args.count [] c.args.words.now in
    let now = c.loop.invariant in
    let is_taken : ℕ → ℕ → Bool = λ row column. has_position c.loop.matrix c.loop.others (row - 1) (column - 1) in
    let taken = are_taken c.args.rows c.args.columns c.loop.others now.0 c.loop.matrix now.2 c.requires.columns in
    let error = err_from_is_err_and c.from_residual-in_err-value.result c.from_residual-in_err-value.ensures.1 in
    let fault = c.in_err-value.field-0.0 in
    let fails = value_fails false c.args.rows c.args.columns is_taken now.0 taken c.loop.words fault in
    let failed = fails c.in_ok-row.row c.in_ok-row.column c.free_place.new.words c.in_ok-row.ensures.read c.in_err-value.ensures.read in
    let made : List Triple × Text → Result (Matrix × Text) (Fault TextKind) = λ triples. Ok (matrix_of_triples c.args.rows c.args.columns triples.0, triples.1) in
    rw (error.1, error.2) (bind_fails fault total made (ends step c.args.count c.loop.counter now.0 c.loop.words total c.loop-test.true fault failed now.1))

pub write_named-requires-clause-free : goal.write_named-requires-clause-free
write_named-requires-clause-free c =
    let now = c.loop.invariant in
    let is_taken : ℕ → ℕ → Bool = λ row column. has_position c.loop.matrix c.loop.others (row - 1) (column - 1) in
    let taken = are_taken c.args.rows c.args.columns c.loop.others now.0 c.loop.matrix now.2 c.requires.columns in
    let new = place_new false c.args.rows c.args.columns is_taken now.0 taken c.loop.words c.in_ok-row.row c.in_ok-row.column c.free_place.new.words c.in_ok-row.ensures.read in
    let triple : Triple = record { row = c.in_ok-row.row; column = c.in_ok-row.column; value = c.in_ok-value.value } in
    free_entry c.args.rows c.args.columns c.loop.others now.0 c.loop.matrix now.2 triple c.in_ok-row.ensures.row_above c.in_ok-row.ensures.column_above new

pub loop-preserved : goal.loop-preserved
loop-preserved c =
    let step = another_triple false c.args.rows c.args.columns in
    let total = times step c.args.count [] c.args.words.now in
    let now = c.loop.invariant in
    let is_taken : ℕ → ℕ → Bool = λ row column. has_position c.loop.matrix c.loop.others (row - 1) (column - 1) in
    let taken = are_taken c.args.rows c.args.columns c.loop.others now.0 c.loop.matrix now.2 c.requires.columns in
    let row = c.in_ok-row.row in
    let column = c.in_ok-row.column in
    let value = c.in_ok-value.value in
    let triple : Triple = record { row = row; column = column; value = value } in
    let new = place_new false c.args.rows c.args.columns is_taken now.0 taken c.loop.words row column c.free_place.new.words c.in_ok-row.ensures.read in
    let makes = triple_made false c.args.rows c.args.columns is_taken now.0 taken c.loop.words row column in
    let made = makes c.free_place.new.words c.entry.new.words value c.in_ok-row.ensures.read c.in_ok-value.ensures.read in
    let fits : SFits w8 value = search rules in
    let written : HasNewEntry (row - 1) (column - 1) value c.loop.matrix c.write_named.new.matrix =
    subst (λ (z : ℤ). HasNewEntry (row - 1) (column - 1) z c.loop.matrix c.write_named.new.matrix) (to_z-of_z w8 value fits) c.in_ok-write_named.ensures.entry in (
      now.0 ++ triple ∷ [],
      goes_on step c.args.count c.loop.counter now.0 c.loop.words total c.loop-test.true (now.0 ++ triple ∷ []) c.entry.new.words made now.1,
      one_more_triple c.args.rows c.args.columns c.loop.others now.0 c.loop.matrix now.2 triple c.write_named.new.others c.write_named.new.matrix
          c.in_ok-row.ensures.row_above c.in_ok-row.ensures.column_above new c.in_ok-write_named.ensures.named written,
    )

pub returns : goal.returns
returns c =
    let step = another_triple false c.args.rows c.args.columns in
    let total = times step c.args.count [] c.args.words.now in
    let now = c.loop.invariant in
    let done = is_done step c.args.count c.loop.counter now.0 c.loop.words total c.loop-test.false now.1 in
    let same = matrix_of_read c.args.rows c.args.columns c.loop.others now.0 c.loop.matrix now.2 c.rows-rows.ensures.shape in
    rw done (ap (λ (m : Matrix). Ok (m, c.loop.words)) (sym same))
