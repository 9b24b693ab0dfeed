use Rattle.std.proofs.Common.{◌≡◌, ◌∙◌, ◌+ℤ◌, ◌*ℤ◌, ℤ, ap₂, arith}
use Rattle.cmr_base.specs.Matrix.{entry}
use Rattle.cmr_base.proofs.SmallEntries.{entry_as_byte}
use Rattle.cmr_base.proofs.SmallNumbers.{bounded_more, entry_is_small, same_small}
use Rattle.cert_check.proofs.spread.is_entry_made.Goals as goal

pub returns : goal.returns
returns c =
    let M = entry c.args.matrix.now in
    let f = c.args.factors in
    let upper = c.entry-upper in
    let lower = c.entry-lower in
    let made = f.first *ℤ M c.args.second.row c.args.column +ℤ f.other *ℤ M c.args.second.other c.args.column in
    let sum : c.entry-2.result ≡ made =
    c.entry-2.ensures.value ∙ ap₂ (λ (x y : ℤ). f.first *ℤ x +ℤ f.other *ℤ y) (entry_as_byte upper.result upper.ensures.small ∙ upper.ensures.value) (entry_as_byte lower.result lower.ensures.small ∙ lower.ensures.value) in
    same_small c.entry.result c.entry-2.result (M c.args.row c.args.column) made (bounded_more 1 8 c.entry.result (omega arith) (entry_is_small c.entry.result c.entry.ensures.small)) c.entry-2.ensures.small c.entry.ensures.value sum
