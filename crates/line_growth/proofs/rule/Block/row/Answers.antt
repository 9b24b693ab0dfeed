use Rattle.std.proofs.Common.{◌∙◌, ap, sym, subst}
use Rattle.cmr_base.specs.Matrix.{entry}
use Rattle.line_growth.specs.declared.rule.Block.{Block}
use Rattle.line_growth.specs.Rules.{IsBlockOf, block_entry}
use Rattle.line_growth.proofs.Sums.{product_row, factor_is}
use Rattle.line_growth.proofs.rule.Block.row.Goals as goal

pub returns-in-Product-clause-sum : goal.returns-in-Product-clause-sum
returns-in-Product-clause-sum c = (c.alone-in-Product.ensures c.args.matrix.now (subst (IsBlockOf c.args.matrix.now) c.in-Product.is c.requires.block).0).0

pub returns-in-Product-clause-value : goal.returns-in-Product-clause-value
returns-in-Product-clause-value c = λ column.
    let m = c.args.matrix.now in
    (c.alone-in-Product.ensures m (subst (IsBlockOf m) c.in-Product.is c.requires.block).0).1 column
    ∙ product_row m c.in-Product.place c.args.row column _ (factor_is c.factor_at.result c.entry.result _ _ c.factor_at.ensures.small c.entry.ensures.small c.factor_at.ensures.value c.entry.ensures.value)
    ∙ ap (λ (b : Block). block_entry (entry m) b c.args.row column) (sym c.in-Product.is)

pub returns-in-Spread-clause-value : goal.returns-in-Spread-clause-value
returns-in-Spread-clause-value c = λ column. c.row.ensures.value column ∙ ap (λ (b : Block). block_entry (entry c.args.matrix.now) b c.args.row column) (sym c.in-Spread.is)
