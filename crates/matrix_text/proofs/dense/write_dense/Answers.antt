use Rattle.std.proofs.Common.{◌≡◌, ◌≤◌, ◌∙◌, ◌++◌, ◌∷◌, [], true, false, length, refl, ap, map, arith}
use Rattle.std.specs.Prelude.{fold}
use Rattle.std.specs.Fmt.{decimal, signed_decimal}
use Rattle.std.proofs.lemmas.List.{take_all}
use Rattle.cmr_base.specs.Matrix.{height}
use Rattle.cmr_base.proofs.Entries.{no_minus}
use Rattle.text_fields.specs.Written.{Draft, with_line, text_of_lines}
use Rattle.text_fields.proofs.Lines.{lines_written}
use Rattle.text_fields.specs.TextWords.{text_of}
use Rattle.matrix_text.specs.Dense.{dense}
use Rattle.matrix_text.proofs.DenseAgain.{dense_again}
use Rattle.matrix_text.proofs.dense.write_dense.Goals as goal

pub returns-clause-text : goal.returns-clause-text
returns-clause-text c =
    let rows = c.args.matrix.now.rows in
    let past : length rows ≤ c.loop-row.row = omega (arith, c.rows-row-end.ensures.rows) in
    let first : c.numbers.new.self ≡ with_line (record { bytes = []; is_begun = false }) (decimal (height c.args.matrix.now) ∷ decimal c.args.matrix.now.width ∷ []) =
    rw (c.in_ok-numbers.ensures, c.new-text.ensures, c.rows.ensures.rows, c.columns.ensures.columns) refl in
    c.into_bytes.ensures
    ∙ ap (λ (d : Draft). d.bytes) c.loop-row.invariant.written
    ∙ ap (λ rows. (fold with_line c.numbers.new.self (map (map signed_decimal) rows)).bytes) (take_all c.loop-row.row rows past)
    ∙ lines_written c.numbers.new.self (map (map signed_decimal) rows)
    ∙ ap (λ (d : Draft). d.bytes ++ text_of_lines (map (map signed_decimal) rows)) first

pub returns-clause-again : goal.returns-clause-again
returns-clause-again c = ap (λ text. dense false (text_of text)) (returns-clause-text c) ∙ dense_again false c.args.matrix.now c.rows.ensures.shape (λ h. absurd (cc))

pub returns-clause-binary_again : goal.returns-clause-binary_again
returns-clause-binary_again c = λ is_binary. ap (λ text. dense true (text_of text)) (returns-clause-text c) ∙ dense_again true c.args.matrix.now c.rows.ensures.shape (λ h. no_minus c.args.matrix.now is_binary)
