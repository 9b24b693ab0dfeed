use Rattle.std.proofs.Common.{◌≡◌, ◌∙◌, ◌+ℤ◌, ◌*ℤ◌, ℕ, sym}
use Rattle.cmr_base.specs.Matrix.{entry}
use Rattle.cmr_base.specs.Separations.{spread_at}
use Rattle.cmr_base.proofs.Lists.{all_weaker}
use Rattle.cert_check.proofs.spread.is_spread_row.Goals as goal

pub returns : goal.returns
returns c =
    let M = entry c.args.matrix.now in
    let row = c.args.row in
    let f = c.factors_of-factors in
    let made : ℕ → Type 0 = λ column. M row column ≡ f.result.first *ℤ M c.args.second.row column +ℤ f.result.other *ℤ M c.args.second.other column in
    let spread : ℕ → Type 0 = λ column. M row column ≡ spread_at M c.args.first c.args.second row column in
    let tested = c.is_row_made.ensures in (
      (λ yes. all_weaker made spread (λ column e. e ∙ sym (f.ensures.sum column)) c.args.columns.now (tested.0 yes)),
      λ all. tested.1 (all_weaker spread made (λ column e. e ∙ f.ensures.sum column) c.args.columns.now all),
    )
