use Rattle.std.proofs.Common.{◌≡◌, ◌*◌, ◌+◌, ◌∙◌, ◌<◌, ℕ, List, ap, sym, get_or}
use Rattle.cmr_base.specs.ColumnSets.{has_column}
use Rattle.cmr_base.specs.Planes.{has_bit}
use Rattle.cmr_base.proofs.ColumnWords.{column_at}
use Rattle.line_growth.specs.GrowingLines.{Growth, is_inside}
use Rattle.line_growth.proofs.growing_lines.GrowingLines.has_unlike_bit.Goals as goal

pub returns : goal.returns
returns c =
    let words = c.words-inside.result.now in
    let chunk = c.args.chunk in
    let inside : (k : ℕ) → k < 64 → has_bit (get_or words chunk 0) k ≡ is_inside c.args.self.now (64 * chunk + k) = λ k s.
    sym (column_at words chunk k s) ∙ ap (λ (ws : List ℕ). has_column ws (64 * chunk + k)) c.words-inside.ensures.words ∙ ap (λ (lines : Growth). is_inside lines (64 * chunk + k)) c.self.view_is in (
      (λ e. let s = c.have_common_bit.ensures.0 e in (s.0, s.1, sym (c.difference.ensures s.0 s.1) ∙ s.2, sym (inside s.0 s.1) ∙ s.3)),
      (λ (k, l, a, b). c.have_common_bit.ensures.1 (k, l, c.difference.ensures k l ∙ a, inside k l ∙ b)),
    )
