use Rattle.std.proofs.Common.{◌∙◌, ℤ, ◌-ℤ◌, ap, sym, subst}
use Rattle.cmr_base.specs.Matrix.{IsEntry}
use Rattle.cmr_base.proofs.SmallNumbers.{difference_fits, difference_kept}
use Rattle.ghouila.proofs.Bytes.{kept_entry, product_bytes}
use Rattle.ghouila.proofs.pivots.reduced.Goals as goal

pub product-requires-clause-first : goal.product-requires-clause-first
product-requires-clause-first c = subst IsEntry (sym (kept_entry c.args.factor c.requires.factor)) c.requires.factor

pub product-requires-clause-second : goal.product-requires-clause-second
product-requires-clause-second c = subst IsEntry (sym (kept_entry c.args.top c.requires.top)) c.requires.top

pub overflow_sub-result : goal.overflow_sub-result
overflow_sub-result c = difference_fits c.args.entry c.product.result c.requires.entry c.product.ensures.small

pub returns : goal.returns
returns c =
    let a = c.args.entry in
    let f = c.product.result in
    let value = product_bytes c.args.factor c.args.top f c.requires.factor c.requires.top c.product.ensures.value in
    difference_kept a f c.requires.entry c.product.ensures.small ∙ ap (λ (z : ℤ). a -ℤ z) value
