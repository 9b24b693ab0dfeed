use Rattle.std.proofs.Common.{◌*◌, ◌+◌, ◌∙◌, not, ℕ, List, ap, arith, get_or, sym}
use Rattle.cmr_base.specs.ColumnSets.{has_column}
use Rattle.cmr_base.proofs.ColumnWords.{column_at}
use Rattle.cmr_base.proofs.WordBits.{has_bit-not}
use Rattle.line_growth.specs.GrowingLines.{Growth, is_inside}
use Rattle.line_growth.proofs.growing_lines.GrowingLines.others.Goals as goal

pub returns : goal.returns
returns c = λ k s.
    let inside = c.words-inside.result.now in
    let chunk = c.args.chunk in
    let column = 64 * chunk + k in
    has_bit-not (get_or inside chunk 0) k (omega arith) s
    ∙ ap not (sym (column_at inside chunk k s) ∙ ap (λ (ws : List ℕ). has_column ws column) c.words-inside.ensures.words ∙ ap (λ (lines : Growth). is_inside lines column) c.self.view_is)
