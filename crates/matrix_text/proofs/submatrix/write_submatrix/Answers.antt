use Rattle.std.proofs.Common.{◌≡◌, ap, ◌∙◌, arith}
use Rattle.std.proofs.lemmas.Grind.{common_steps}
use Rattle.cmr_base.proofs.IncreasingLists.{increasing_count}
use Rattle.text_fields.specs.TextWords.{text_of}
use Rattle.matrix_text.specs.Submatrix.{named_lines}
use Rattle.matrix_text.specs.CanonicalMatrices.{submatrix_text}
use Rattle.matrix_text.proofs.SubmatrixAgain.{submatrix_again}
use Rattle.matrix_text.proofs.submatrix.write_submatrix.Goals as goal

pub overflow_cast-row_count : goal.overflow_cast-row_count
overflow_cast-row_count c = let few = increasing_count c.args.rows c.args.lines.now.rows c.len-row_count.ensures.increasing c.requires.rows_in in omega (arith, c.len-row_count.ensures.len)

pub overflow_cast-column_count : goal.overflow_cast-column_count
overflow_cast-column_count c = let few = increasing_count c.args.columns c.args.lines.now.columns c.len-column_count.ensures.increasing c.requires.columns_in in omega (arith, c.len-column_count.ensures.len)

pub returns-clause-again : goal.returns-clause-again
returns-clause-again c =
    let text : c.into_bytes.result.items ≡ submatrix_text c.args.rows c.args.columns c.args.lines.now = grind (arith, common_steps) in
    ap (λ text. named_lines c.args.rows c.args.columns (text_of text)) text ∙ submatrix_again c.args.rows c.args.columns c.args.lines.now c.requires.rows c.requires.columns c.len-row_count.ensures.increasing c.len-column_count.ensures.increasing c.requires.rows_in c.requires.columns_in
