use Rattle.std.proofs.Common.{◌≡◌, ◌∙◌, ◌+ℤ◌, ◌*ℤ◌, ℤ, ap₂, arith}
use Rattle.cmr_base.proofs.EntryBytes.{kept_entry}
use Rattle.cmr_base.proofs.SmallNumbers.{bounded_more, entry_is_small, same_small}
use Rattle.line_growth.specs.Rules.{sum_at}
use Rattle.line_growth.proofs.rule.Sum.is_at.Goals as goal

pub returns : goal.returns
returns c =
    let sum = c.args.self in
    let value : c.entry-2.result ≡ sum_at c.args.matrix.now sum c.args.column =
    c.entry-2.ensures.value
    ∙ ap₂ (λ (x y : ℤ). sum.factors.first *ℤ x +ℤ sum.factors.other *ℤ y) (kept_entry c.entry-first.result c.entry-first.ensures.small ∙ c.entry-first.ensures.value) (kept_entry c.entry-other.result c.entry-other.ensures.small ∙ c.entry-other.ensures.value) in
    same_small c.entry.result c.entry-2.result _ _ (bounded_more 1 8 c.entry.result (omega arith) (entry_is_small c.entry.result c.entry.ensures.small)) c.entry-2.ensures.small c.entry.ensures.value value
