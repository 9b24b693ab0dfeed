use Rattle.std.proofs.Common.{◌∙◌, ap, sym, subst, refl, arith, pos}
use Rattle.cmr_base.specs.Matrix.{entry, transposed}
use Rattle.cmr_base.proofs.Parts.{height-transposed}
use Rattle.line_growth.specs.declared.rule.Block.{Block}
use Rattle.line_growth.specs.Rules.{IsBlockOf, block_entry}
use Rattle.line_growth.proofs.Sums.{product_column, factor_is, zero_times}
use Rattle.line_growth.proofs.rule.Block.column.Goals as goal

pub returns-in-Zero-clause-sum : goal.returns-in-Zero-clause-sum
returns-in-Zero-clause-sum c = (c.alone.ensures (transposed c.args.matrix.now) (let h = height-transposed c.args.matrix.now in let l = c.requires.column in omega arith)).0

pub returns-in-Zero-clause-value : goal.returns-in-Zero-clause-value
returns-in-Zero-clause-value c = λ row.
    (c.alone.ensures (transposed c.args.matrix.now) (let h = height-transposed c.args.matrix.now in let l = c.requires.column in omega arith)).1 row
    ∙ zero_times (pos 0) (entry (transposed c.args.matrix.now) c.args.column row) refl ∙ ap (λ (b : Block). block_entry (entry c.args.matrix.now) b row c.args.column) (sym c.in-Zero.is)

pub returns-in-Product-clause-sum : goal.returns-in-Product-clause-sum
returns-in-Product-clause-sum c = (c.alone-in-Product.ensures (transposed c.args.matrix.now) (let h = height-transposed c.args.matrix.now in let l = (subst (IsBlockOf c.args.matrix.now) c.in-Product.is c.requires.block).1 in omega arith)).0

pub returns-in-Product-clause-value : goal.returns-in-Product-clause-value
returns-in-Product-clause-value c = λ row.
    let m = c.args.matrix.now in
    (c.alone-in-Product.ensures (transposed m) (let h = height-transposed m in let l = (subst (IsBlockOf m) c.in-Product.is c.requires.block).1 in omega arith)).1 row
    ∙ product_column m c.rows-rows.ensures.shape c.in-Product.place c.args.column row _ (factor_is c.factor_at.result c.entry.result _ _ c.factor_at.ensures.small c.entry.ensures.small c.factor_at.ensures.value c.entry.ensures.value)
    ∙ ap (λ (b : Block). block_entry (entry m) b row c.args.column) (sym c.in-Product.is)

pub returns-in-Spread-clause-value : goal.returns-in-Spread-clause-value
returns-in-Spread-clause-value c = λ row. c.column.ensures.value row ∙ ap (λ (b : Block). block_entry (entry c.args.matrix.now) b row c.args.column) (sym c.in-Spread.is)
