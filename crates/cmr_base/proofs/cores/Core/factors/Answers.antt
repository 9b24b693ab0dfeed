use Rattle.std.proofs.Common.{◌≡◌, ◌∙◌, ◌+ℤ◌, ◌-ℤ◌, ◌*ℤ◌, ℤ, w8, of_z, to_z, ap, ap₂, sym, subst}
use Rattle.cmr_base.specs.Cores.{IsBounded}
use Rattle.cmr_base.proofs.SmallNumbers.{bounded_double, double_fits, double_kept, determinant_as_bytes, spread_is}
use Rattle.cmr_base.proofs.cores.Core.factors.Goals as goal

small : (x y : ℤ) → IsBounded 2 x → IsBounded 2 y → IsBounded 4 (to_z w8 (of_z w8 (to_z w8 (of_z w8 x) *ℤ to_z w8 (of_z w8 y))))
small x y a b = subst (IsBounded 4) (sym (double_kept x y a b)) (bounded_double 2 x y a b)

pub overflow_mul-result : goal.overflow_mul-result
overflow_mul-result c = double_fits c.args.determinant c.determinant.result c.requires.determinant c.determinant.ensures.small

pub overflow_mul-result-2 : goal.overflow_mul-result-2
overflow_mul-result-2 c = double_fits c.args.determinant c.determinant-2.result c.requires.determinant c.determinant-2.ensures.small

pub returns-clause-sum : goal.returns-clause-sum
returns-clause-sum c column_first column_other =
    let core = c.args.self in
    let d = c.args.determinant in
    let first = c.args.first in
    let other = c.args.other in
    let entries = c.requires.core in
    let one : to_z w8 (of_z w8 (to_z w8 (of_z w8 d) *ℤ to_z w8 (of_z w8 c.determinant.result))) ≡ d *ℤ (first *ℤ core.w -ℤ other *ℤ core.z) =
    double_kept d c.determinant.result c.requires.determinant c.determinant.ensures.small
    ∙ ap (λ (n : ℤ). d *ℤ n) (c.determinant.ensures.value ∙ determinant_as_bytes first other core.z core.w c.requires.first c.requires.other entries.z entries.w) in
    let two : to_z w8 (of_z w8 (to_z w8 (of_z w8 d) *ℤ to_z w8 (of_z w8 c.determinant-2.result))) ≡ d *ℤ (core.x *ℤ other -ℤ core.y *ℤ first) =
    double_kept d c.determinant-2.result c.requires.determinant c.determinant-2.ensures.small
    ∙ ap (λ (n : ℤ). d *ℤ n) (c.determinant-2.ensures.value ∙ determinant_as_bytes core.x core.y first other entries.x entries.y c.requires.first c.requires.other) in
    spread_is d core.x core.y core.z core.w first other column_first column_other ∙ sym (ap₂ (λ (p q : ℤ). p *ℤ column_first +ℤ q *ℤ column_other) one two)

pub returns-clause-first : goal.returns-clause-first
returns-clause-first c = small c.args.determinant c.determinant.result c.requires.determinant c.determinant.ensures.small

pub returns-clause-other : goal.returns-clause-other
returns-clause-other c = small c.args.determinant c.determinant-2.result c.requires.determinant c.determinant-2.ensures.small
