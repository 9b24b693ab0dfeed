use Rattle.std.proofs.Common.{◌∙◌, ℤ, neg_ℤ, ◌-ℤ◌, ◌*ℤ◌, sym, ap, rules, w8, SFits}
use mathlib.Core.Path.{ap₂}
use Rattle.std.proofs.lemmas.Int.{to_z-of_z}
use Rattle.cmr_base.specs.Matrix.{entry}
use Rattle.cmr_base.proofs.SmallEntries.{entry_as_byte}
use Rattle.cmr_base.specs.PlacedPivots.{pivot_entry}
use Rattle.ghouila.proofs.PivotBytes.{entry_byte, negated_byte}
use Rattle.ghouila.proofs.PivotSums.{pivoted_at}
use Rattle.ghouila.proofs.WholePivots.{entry_there, entry_in_row, entry_elsewhere}
use Rattle.pivots.proofs.PivotEntries.{entry_apart}
use Rattle.pivots.proofs.part_pivot.entry_after.Goals as goal

pub returns-then-column-place : goal.returns-then-column-place
returns-then-column-place c =
    let factor = c.entry-factor.ensures in
    let at = pivot_entry (entry c.args.matrix.now) c.args.place.row c.args.place.column in
    entry_as_byte c.entry-factor.result factor.small ∙ factor.value
    ∙ sym (ap₂ at c.if-row-place.true c.if-column-place.true ∙ entry_there (entry c.args.matrix.now) c.args.place.row c.args.place.column)

pub product-requires-clause-first : goal.product-requires-clause-first
product-requires-clause-first c = entry_byte c.entry-factor.result c.entry-factor.ensures.small

pub product-requires-clause-second : goal.product-requires-clause-second
product-requires-clause-second c = entry_byte c.entry.result c.entry.ensures.small

pub returns-then-row-place : goal.returns-then-row-place
returns-then-row-place c =
    let M = entry c.args.matrix.now in
    let r = c.args.place.row in
    let j = c.args.column in
    let factor = c.entry-factor.ensures in
    let there = c.entry.ensures in
    entry_as_byte c.product.result c.product.ensures.small ∙ c.product.ensures.value
    ∙ ap₂ (λ (s t : ℤ). s *ℤ t) (entry_as_byte c.entry-factor.result factor.small ∙ factor.value)
    (entry_as_byte c.entry.result there.small ∙ there.value ∙ ap (λ i. M i j) c.if-row-place.true)
    ∙ sym (ap (λ i. pivot_entry M r c.args.place.column i j) c.if-row-place.true ∙ entry_in_row M r c.args.place.column j c.if-column-place.false)

pub product-requires-then-column-place-2-clause-first : goal.product-requires-then-column-place-2-clause-first
product-requires-then-column-place-2-clause-first c = entry_byte c.entry-factor.result c.entry-factor.ensures.small

pub product-requires-then-column-place-2-clause-second : goal.product-requires-then-column-place-2-clause-second
product-requires-then-column-place-2-clause-second c = entry_byte c.entry-left.result c.entry-left.ensures.small

pub returns-then-column-place-2 : goal.returns-then-column-place-2
returns-then-column-place-2 c =
    let M = entry c.args.matrix.now in
    let r = c.args.place.row in
    let k = c.args.place.column in
    let i = c.args.row in
    let factor = c.entry-factor.ensures in
    let left = c.entry-left.ensures in
    let made = c.product-then-column-place-2 in
    negated_byte made.result made.ensures.small
    ∙ ap neg_ℤ (made.ensures.value
    ∙ ap₂ (λ (s t : ℤ). s *ℤ t) (entry_as_byte c.entry-factor.result factor.small ∙ factor.value) (entry_as_byte c.entry-left.result left.small ∙ left.value))
    ∙ sym (ap (pivot_entry M r k i) c.if-column-place-2.true ∙ entry_elsewhere M r k i k c.if-row-place.false ∙ pivoted_at M r k i)

pub product-requires-2-clause-first : goal.product-requires-2-clause-first
product-requires-2-clause-first c = entry_byte c.entry-left.result c.entry-left.ensures.small

pub product-requires-2-clause-second : goal.product-requires-2-clause-second
product-requires-2-clause-second c = entry_byte c.entry-2.result c.entry-2.ensures.small

pub product-change-requires-clause-first : goal.product-change-requires-clause-first
product-change-requires-clause-first c = entry_byte c.entry-factor.result c.entry-factor.ensures.small

pub product-change-requires-clause-second : goal.product-change-requires-clause-second
product-change-requires-clause-second c = entry_byte c.product-2.result c.product-2.ensures.small

pub difference-requires-clause-one : goal.difference-requires-clause-one
difference-requires-clause-one c = entry_byte c.entry-3.result c.entry-3.ensures.small

pub difference-requires-clause-other : goal.difference-requires-clause-other
difference-requires-clause-other c = entry_byte c.product-change.result c.product-change.ensures.small

pub returns : goal.returns
returns c =
    let z = c.difference.result in
    let fits : SFits w8 z = search rules in
    let a = c.entry-factor.ensures in let p = c.entry-left.ensures in let q = c.entry-2.ensures in let x = c.entry-3.ensures in
    let inner = c.product-2.ensures in
    let change = c.product-change.ensures in
    to_z-of_z w8 z fits ∙ c.difference.ensures
    ∙ ap₂ (λ (s t : ℤ). s -ℤ t) (entry_as_byte c.entry-3.result x.small ∙ x.value)
    (entry_as_byte c.product-change.result change.small ∙ change.value
    ∙ ap₂ (λ (s t : ℤ). s *ℤ t) (entry_as_byte c.entry-factor.result a.small ∙ a.value)
    (entry_as_byte c.product-2.result inner.small ∙ inner.value
    ∙ ap₂ (λ (s t : ℤ). s *ℤ t) (entry_as_byte c.entry-left.result p.small ∙ p.value) (entry_as_byte c.entry-2.result q.small ∙ q.value)))
    ∙ sym (entry_apart (entry c.args.matrix.now) c.args.place.row c.args.place.column c.args.row c.args.column c.if-row-place.false c.if-column-place-2.false)
