use Rattle.std.proofs.Common.{true, ◌≡◌, ◌<◌, ◌≤◌, ◌∙◌, ◌+◌, ◌++◌, ◌∷◌, [], ℕ, ℤ, false, List, length, get_or, refl, ap, map, drop, sym, arith}
use Rattle.std.specs.Prelude.{fold}
use Rattle.std.specs.Fmt.{decimal}
use Rattle.std.proofs.lemmas.List.{drop_more, drop_all, map-append}
use Rattle.std.proofs.lemmas.List.Sums.{fold-append}
use Rattle.cmr_base.specs.Matrix.{height, nonzeros_of}
use Rattle.cmr_base.proofs.Entries.{no_minus}
use Rattle.text_fields.specs.Written.{Draft, with_line, text_of_lines}
use Rattle.text_fields.proofs.Lines.{lines_written, lines_end}
use Rattle.matrix_text.specs.CanonicalMatrices.{triple_line, row_triples, triples_from}
use Rattle.text_fields.specs.TextWords.{text_of}
use Rattle.matrix_text.specs.Sparse.{sparse}
use Rattle.matrix_text.proofs.SparseAgain.{sparse_again}
use Rattle.matrix_text.proofs.sparse.write_sparse.Goals as goal

-- the lines of a row before the lines of the later rows
row_first : (draft : Draft) (rows : List (List ℤ)) (row : ℕ) → row < length rows
    → fold with_line (fold with_line draft (map triple_line (row_triples (row + 1) 1 (get_or rows row [])))) (map triple_line (triples_from (row + 1 + 1) (drop (row + 1) rows))) ≡ fold with_line draft (map triple_line (triples_from (row + 1) (drop row rows)))
row_first draft rows row h =
    let here = row_triples (row + 1) 1 (get_or rows row []) in
    let after = triples_from (row + 1 + 1) (drop (row + 1) rows) in
    sym (ap (λ rest. fold with_line draft (map triple_line (triples_from (row + 1) rest))) (drop_more rows row [] h)
    ∙ ap (fold with_line draft) (map-append triple_line here after)
    ∙ fold-append with_line draft (map triple_line here) (map triple_line after))

pub loop-row-preserved : goal.loop-row-preserved
loop-row-preserved c =
    let rows = c.args.matrix.now.rows in
    let row = c.loop-row.row in
    let here = map triple_line (row_triples (row + 1) 1 (get_or rows row [])) in
    let made : c.write_row.new.text ≡ fold with_line c.loop-row.text here = c.in_ok-write_row.ensures in
    let inside : row < length rows = omega (arith, c.rows-row-end.ensures.rows) in
    rw made (record {
      written = row_first c.loop-row.text rows row inside ∙ c.loop-row.invariant.written;
      at_start = lines_end c.loop-row.text here c.loop-row.invariant.at_start;
    })

pub returns-clause-text : goal.returns-clause-text
returns-clause-text c =
    let rows = c.args.matrix.now.rows in
    let past : length rows ≤ c.loop-row.row = omega (arith, c.rows-row-end.ensures.rows) in
    let first : c.numbers.new.self ≡ with_line (record { bytes = []; is_begun = false }) (decimal (height c.args.matrix.now) ∷ decimal c.args.matrix.now.width ∷ decimal (nonzeros_of rows) ∷ []) =
    rw (c.in_ok-numbers.ensures, c.new-text.ensures, c.rows.ensures.rows, c.columns.ensures.columns, c.nonzeros.ensures) refl in
    let none = drop_all c.loop-row.row rows past in
    let all : c.loop-row.text ≡ fold with_line c.numbers.new.self (map triple_line (triples_from 1 rows)) =
    ap (λ rest. fold with_line c.loop-row.text (map triple_line (triples_from (c.loop-row.row + 1) rest))) (sym none) ∙ c.loop-row.invariant.written in
    c.into_bytes.ensures
    ∙ ap (λ (d : Draft). d.bytes) all
    ∙ lines_written c.numbers.new.self (map triple_line (triples_from 1 rows))
    ∙ ap (λ (d : Draft). d.bytes ++ text_of_lines (map triple_line (triples_from 1 rows))) first

pub returns-clause-again : goal.returns-clause-again
returns-clause-again c = ap (λ text. sparse false (text_of text)) (returns-clause-text c) ∙ sparse_again false c.args.matrix.now c.rows.ensures.shape (λ h. absurd (cc))

pub returns-clause-binary_again : goal.returns-clause-binary_again
returns-clause-binary_again c = λ is_binary. ap (λ text. sparse true (text_of text)) (returns-clause-text c) ∙ sparse_again true c.args.matrix.now c.rows.ensures.shape (λ h. no_minus c.args.matrix.now is_binary)
