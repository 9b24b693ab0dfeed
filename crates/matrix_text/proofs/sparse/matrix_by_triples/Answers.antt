use Rattle.std.proofs.Common.{◌≡◌, ◌<◌, ◌*◌, ◌+◌, ◌-◌, ◌∷◌, [], ◌++◌, ◌∙◌, ℕ, ℤ, pos, Bool, false, List, Ok, get_or, refl, ap, sym, subst, rules, set, arith, SFits, w8}
use Rattle.std.proofs.lemmas.Int.{to_z-of_z}
use Rattle.std.specs.Prelude.{replicate}
use Rattle.std.proofs.lemmas.Result.{err_from_is_err_and}
use Rattle.cmr_base.specs.Matrix.{Matrix, height, rows_of, with_entry}
use Rattle.cmr_base.proofs.Rows.{length-rows_of, replicate-rows_of, set-rows_of}
use Rattle.text_fields.specs.TextWords.{Text}
use Rattle.text_fields.specs.Reading.{times}
use Rattle.text_fields.proofs.Times.{all_to_come, goes_on, ends, is_done}
use Rattle.text_fields.proofs.Fields.{bind_fails}
use Rattle.matrix_text.specs.Sparse.{Triple, another_triple, matrix_of_triples}
use Rattle.matrix_text.proofs.Places.{none_held, held_marks, one_more, held_matrix, AreHeld}
use Rattle.matrix_text.proofs.Triples.{place_new, triple_made, place_fails, value_fails}
use Rattle.matrix_text.proofs.sparse.matrix_by_triples.Goals as goal

-- the matrix of a list of cells after a change of one cell
written : (height width : ℕ) (cells : List ℤ) (m new : Matrix) (row column : ℕ) (z : ℤ) → m ≡ record { rows = rows_of height width cells; width = width } → row < height → column < width → new ≡ with_entry m row column z
    → new ≡ record { rows = rows_of height width (set cells (row * width + column) z); width = width }
written height width cells m new row column z is low near e =
    e ∙ ap (λ (k : Matrix). with_entry k row column z) is ∙ ap (λ (rows : List (List ℤ)). record { rows = rows; width = width }) (sym (set-rows_of height width cells row column z low near))

pub loop-init : goal.loop-init
loop-init c =
    let step = another_triple c.args.binary c.args.rows c.args.columns in
    let total = times step c.args.count [] c.args.words.now in
    let taken : c.in_ok-taken.taken.items ≡ replicate (c.args.rows * c.args.columns) false = search rules in (
      [],
      all_to_come step c.args.count 0 [] c.args.words.now total refl,
      replicate (c.args.rows * c.args.columns) (pos 0),
      rw taken (none_held c.args.rows c.args.columns),
      c.in_ok-matrix.ensures ∙ ap (λ (rows : List (List ℤ)). record { rows = rows; width = c.args.columns }) (sym (replicate-rows_of c.args.rows c.args.columns (pos 0))),
    )

pub returns-in_err-row : goal.returns-in_err-row
returns-in_err-row c =
    let step = another_triple c.args.binary c.args.rows c.args.columns in
    let total = times step c.args.count [] c.args.words.now in
    let now = c.loop.invariant in
    let is_taken : ℕ → ℕ → Bool = λ row column. get_or c.deref.result.now ((row - 1) * c.args.columns + (column - 1)) false in
    let held = subst (λ (taken : List Bool). AreHeld c.args.rows c.args.columns taken now.2 now.0) (sym c.deref.ensures.value) now.3 in
    let marks = held_marks c.args.rows c.args.columns c.deref.result.now now.2 now.0 held in
    let p = err_from_is_err_and c.from_residual-in_err-row.result c.from_residual-in_err-row.ensures.1 in
    let e = c.in_err-row.field-0.0 in
    let failed = place_fails c.args.binary c.args.rows c.args.columns is_taken now.0 marks c.loop.words e c.in_err-row.ensures.read in
    rw (p.1, p.2) (bind_fails e total (λ (triples : List Triple × Text). Ok (matrix_of_triples c.args.rows c.args.columns triples.0, triples.1)) (ends step c.args.count c.loop.counter now.0 c.loop.words total c.loop-test.true e failed now.1))

pub returns-in_err-value : goal.returns-in_err-value
returns-in_err-value c =
    let step = another_triple c.args.binary c.args.rows c.args.columns in
    let total = times step c.args.count [] c.args.words.now in
    let now = c.loop.invariant in
    let is_taken : ℕ → ℕ → Bool = λ row column. get_or c.deref.result.now ((row - 1) * c.args.columns + (column - 1)) false in
    let held = subst (λ (taken : List Bool). AreHeld c.args.rows c.args.columns taken now.2 now.0) (sym c.deref.ensures.value) now.3 in
    let marks = held_marks c.args.rows c.args.columns c.deref.result.now now.2 now.0 held in
    let p = err_from_is_err_and c.from_residual-in_err-value.result c.from_residual-in_err-value.ensures.1 in
    let e = c.in_err-value.field-0.0 in
    let fails = value_fails c.args.binary c.args.rows c.args.columns is_taken now.0 marks c.loop.words e in
    let failed = fails c.in_ok-row.row c.in_ok-row.column c.free_place.new.words c.in_ok-row.ensures.read c.in_err-value.ensures.read in
    rw (p.1, p.2) (bind_fails e total (λ (triples : List Triple × Text). Ok (matrix_of_triples c.args.rows c.args.columns triples.0, triples.1)) (ends step c.args.count c.loop.counter now.0 c.loop.words total c.loop-test.true e failed now.1))

pub set-requires-clause-row : goal.set-requires-clause-row
set-requires-clause-row c =
    let now = c.loop.invariant in
    let rows : height c.loop.matrix ≡ c.args.rows = ap height now.4 ∙ length-rows_of c.args.rows c.args.columns now.2 in
    let l = c.in_ok-row.ensures.row_within in
    let a = c.in_ok-row.ensures.row_above in
    omega arith

pub loop-preserved : goal.loop-preserved
loop-preserved c =
    let step = another_triple c.args.binary c.args.rows c.args.columns in
    let total = times step c.args.count [] c.args.words.now in
    let now = c.loop.invariant in
    let is_taken : ℕ → ℕ → Bool = λ row column. get_or c.deref.result.now ((row - 1) * c.args.columns + (column - 1)) false in
    let held = subst (λ (taken : List Bool). AreHeld c.args.rows c.args.columns taken now.2 now.0) (sym c.deref.ensures.value) now.3 in
    let marks = held_marks c.args.rows c.args.columns c.deref.result.now now.2 now.0 held in
    let row = c.in_ok-row.row in
    let column = c.in_ok-row.column in
    let z = c.in_ok-value.value in
    let makes = triple_made c.args.binary c.args.rows c.args.columns is_taken now.0 marks c.loop.words row column in
    let made = makes c.free_place.new.words c.entry.new.words z c.in_ok-row.ensures.read c.in_ok-value.ensures.read in
    let new = place_new c.args.binary c.args.rows c.args.columns is_taken now.0 marks c.loop.words row column c.free_place.new.words c.in_ok-row.ensures.read in
    let t : Triple = record { row = row; column = column; value = z } in
    let more = one_more c.args.rows c.args.columns c.loop.taken.items now.2 now.0 t c.in_ok-row.ensures.row_above c.in_ok-row.ensures.row_within c.in_ok-row.ensures.column_above c.in_ok-row.ensures.column_within now.3 c.in_ok-value.ensures.small new in
    let fits : SFits w8 z = search rules in
    let place = (row - 1) * c.args.columns + (column - 1) in (
      now.0 ++ t ∷ [],
      goes_on step c.args.count c.loop.counter now.0 c.loop.words total c.loop-test.true (now.0 ++ t ∷ []) c.entry.new.words made now.1,
      set now.2 place z,
      more,
      written c.args.rows c.args.columns now.2 c.loop.matrix c.set.new.self (row - 1) (column - 1) z now.4
          (let l = c.in_ok-row.ensures.row_within in let a = c.in_ok-row.ensures.row_above in omega arith)
          (let l = c.in_ok-row.ensures.column_within in let a = c.in_ok-row.ensures.column_above in omega arith)
          (c.set.ensures ∙ ap (with_entry c.loop.matrix (row - 1) (column - 1)) (to_z-of_z w8 z fits)),
    )

pub returns : goal.returns
returns c =
    let step = another_triple c.args.binary c.args.rows c.args.columns in
    let total = times step c.args.count [] c.args.words.now in
    let now = c.loop.invariant in
    let done = is_done step c.args.count c.loop.counter now.0 c.loop.words total c.loop-test.false now.1 in
    let same = held_matrix c.args.rows c.args.columns c.loop.taken.items now.2 now.0 now.3 in
    rw done (ap (λ (m : Matrix). Ok (m, c.loop.words)) (sym (now.4 ∙ same)))
