use Rattle.std.proofs.Common.{◌*◌, ◌+◌, ◌∙◌, ◌&&◌, not, ℕ, List, ap, ap₂, sym}
use Rattle.cmr_base.specs.ColumnSets.{has_column}
use Rattle.cmr_base.proofs.ColumnWords.{column_at}
use Rattle.line_growth.specs.GrowingLines.{Growth, is_inside}
use Rattle.line_growth.proofs.growing_lines.GrowingLines.unlike.Goals as goal

pub returns : goal.returns
returns c = λ k s.
    let inside = c.words-inside.result.now in
    let chunk = c.args.chunk in
    let column = 64 * chunk + k in
    c.outside.ensures k s ∙ ap₂ (λ a b. a && not b) (c.difference.ensures k s) (sym (column_at inside chunk k s) ∙ ap (λ (ws : List ℕ). has_column ws column) c.words-inside.ensures.words ∙ ap (λ (lines : Growth). is_inside lines column) c.self.view_is)
