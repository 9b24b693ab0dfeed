use Rattle.std.proofs.Common.{◌∙◌, ◌-ℤ◌, ℤ, ap₂, sym, subst}
use Rattle.cmr_base.specs.Cores.{IsBounded}
use Rattle.cmr_base.proofs.SmallNumbers.{bounded_difference, difference_fits, difference_kept, determinant_as_bytes}
use Rattle.cmr_base.proofs.cores.Core.determinant.Goals as goal

pub overflow_sub-result : goal.overflow_sub-result
overflow_sub-result c = difference_fits c.product.result c.product-2.result c.product.ensures.small c.product-2.ensures.small

pub returns-clause-value : goal.returns-clause-value
returns-clause-value c =
    difference_kept c.product.result c.product-2.result c.product.ensures.small c.product-2.ensures.small
    ∙ ap₂ (λ (p q : ℤ). p -ℤ q) c.product.ensures.value c.product-2.ensures.value
    ∙ determinant_as_bytes c.args.self.x c.args.self.y c.args.self.z c.args.self.w c.requires.x c.requires.y c.requires.z c.requires.w

pub returns-clause-small : goal.returns-clause-small
returns-clause-small c =
    let one = c.product in
    let other = c.product-2 in
    subst (IsBounded 2) (sym (difference_kept one.result other.result one.ensures.small other.ensures.small)) (bounded_difference one.result other.result one.ensures.small other.ensures.small)
