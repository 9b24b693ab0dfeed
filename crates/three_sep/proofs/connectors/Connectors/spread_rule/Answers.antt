use Rattle.std.proofs.Common.{◌∙◌, ap, ℕ, ℤ}
use Rattle.cmr_base.specs.Matrix.{entry}
use Rattle.cmr_base.specs.Separations.{spread_at}
use Rattle.three_sep.proofs.connectors.Connectors.spread_rule.Goals as goal

abbrev made : (ℕ → ℕ → ℤ) → (upper lower left right : ℕ) → ℕ → ℕ → ℤ
made M upper lower left right = spread_at M (record { row = upper; column = left; other = right }) (record { row = upper; column = left; other = lower })

pub returns-clause-lower : goal.returns-clause-lower
returns-clause-lower c =
    let M = entry c.args.matrix.now in
    let d = c.args.self.now in
    let at = c.at-lines.result in
    ap (λ (x : ℕ). made M x at.lower at.left at.right) c.at-lines.ensures.rows.0 ∙ ap (λ (x : ℕ). made M d.second.row x at.left at.right) c.at-lines.ensures.rows.1
    ∙ ap (λ (x : ℕ). made M d.second.row d.second.other x at.right) c.at-lines.ensures.columns.0 ∙ ap (λ (x : ℕ). made M d.second.row d.second.other d.first.column x) c.at-lines.ensures.columns.1
