use Rattle.std.proofs.Common.{◌≡◌, ◌<◌, ◌+◌, ◌∙◌, [], ◌∷◌, ℤ, pos, ◌-ℤ◌, ◌*ℤ◌, neg_ℤ, subst, sym, ap, arith, rules, to_z, of_z, w8, SFits}
use mathlib.Core.Path.{ap₂}
use Rattle.std.proofs.lemmas.Int.{ints, to_z-of_z}
use Rattle.cmr_base.specs.Matrix.{Matrix, entry, IsEntry}
use Rattle.cmr_base.proofs.SmallEntries.{negative_is_entry}
use Rattle.cmr_base.specs.PlacedPivots.{reduced}
use Rattle.ghouila.specs.Pivot.{KeepsRowsElsewhere, PivotsRows}
use Rattle.ghouila.proofs.Bytes.{zero_byte, reduced_bytes, product_bytes}
use Rattle.ghouila.proofs.PivotBytes.{entry_byte, negated_byte, zero_below, pivoted_row}
use Rattle.ghouila.proofs.PivotRow.{IsReduced, keeps_all, keeps_with_entry, reduced_none, reduced_over, reduced_more, reduced_all}
use Rattle.ghouila.proofs.pivots.pivot_row.Goals as goal

pub loop-last-init : goal.loop-last-init
loop-last-init c = record {
  inside = omega arith;
  reduced = reduced_none c.args.work.now c.args.row c.args.column c.args.other c.columns.ensures.shape;
}

pub set-requires-clause-small : goal.set-requires-clause-small
set-requires-clause-small c =
    let z = c.reduced-left.result in
    let fits : SFits w8 z = search rules in
    let a = c.entry.ensures in let p = c.entry-2.ensures in let x = c.entry-in-Some.ensures in let q = c.entry-in-Some-2.ensures in let f = c.product-factor.ensures in
    let value : z ≡ c.entry-in-Some.result -ℤ c.entry.result *ℤ (c.entry-2.result *ℤ c.entry-in-Some-2.result) = reduced_bytes c.entry.result c.entry-2.result c.entry-in-Some-2.result c.entry-in-Some.result c.product-factor.result z a.small p.small q.small x.small f.small f.value c.reduced-left.ensures in
    let same = c.loop-last.invariant.reduced.others.others c.args.row c.in-Some.last c.requires.apart in
    let ahead = c.loop-last.invariant.reduced.ahead c.in-Some.last c.in-Some.ensures.first.0 in
    let is : z ≡ reduced (entry c.args.work.now) c.args.row c.args.column c.args.other c.in-Some.last = cc in
    let inside = c.in-Some.ensures.first.1 in
    let width = c.loop-last.invariant.reduced.others.same_width in
    subst IsEntry (sym (to_z-of_z w8 z fits ∙ is)) (c.requires.small c.in-Some.last (omega (arith, inside, width)))

pub loop-last-preserved : goal.loop-last-preserved
loop-last-preserved c =
    let z = c.reduced-left.result in
    let fits : SFits w8 z = search rules in
    let a = c.entry.ensures in let p = c.entry-2.ensures in let x = c.entry-in-Some.ensures in let q = c.entry-in-Some-2.ensures in let f = c.product-factor.ensures in
    let value : z ≡ c.entry-in-Some.result -ℤ c.entry.result *ℤ (c.entry-2.result *ℤ c.entry-in-Some-2.result) = reduced_bytes c.entry.result c.entry-2.result c.entry-in-Some-2.result c.entry-in-Some.result c.product-factor.result z a.small p.small q.small x.small f.small f.value c.reduced-left.ensures in
    let before = c.args.work.now in
    let last = c.in-Some.last in
    let same = c.loop-last.invariant.reduced.others.others c.args.row last c.requires.apart in
    let ahead = c.loop-last.invariant.reduced.ahead last c.in-Some.ensures.first.0 in
    let is : z ≡ reduced (entry c.args.work.now) c.args.row c.args.column c.args.other c.in-Some.last = cc in
    let kept : to_z w8 (of_z w8 z) ≡ reduced (entry c.args.work.now) c.args.row c.args.column c.args.other c.in-Some.last = to_z-of_z w8 z fits ∙ is in
    let within = c.in-Some.ensures.first.1 in
    let width = c.loop-last.invariant.reduced.others.same_width in
    let inside : c.in-Some.last < c.args.work.now.width = omega (arith, within, width) in
    let over : IsReduced before c.loop-last.work c.args.row c.args.column c.args.other last =
    reduced_over before c.loop-last.work c.args.row c.args.column c.args.other c.loop-last.from last c.requires.apart c.in-Some.ensures.first.0 c.loop-last.invariant.reduced c.in-Some.ensures.first.3 in
    record {
      inside = omega (arith, inside);
      reduced = subst (λ (m : Matrix). IsReduced c.args.work.now m c.args.row c.args.column c.args.other (c.in-Some.last + 1)) (sym c.set.ensures)
          (reduced_more before c.loop-last.work c.args.row c.args.column c.args.other last c.requires.other over (to_z w8 (of_z w8 z)) inside (subst IsEntry (sym kept) (c.requires.small last inside)) kept);
    }

pub returns-clause-pivoted : goal.returns-clause-pivoted
returns-clause-pivoted c =
    let a = c.entry.ensures in let p = c.entry-2.ensures in let f = c.product-factor.ensures in
    let before = c.args.work.now in
    let turned : to_z w8 (of_z w8 (pos 0 -ℤ to_z w8 (of_z w8 c.product-factor.result))) ≡ neg_ℤ c.product-factor.result = let low = f.small.low in let high = f.small.high in omega (arith, ints) in
    let factor : c.product-factor.result ≡ entry c.args.work.now c.args.row c.args.column *ℤ entry c.args.work.now c.args.other c.args.column = product_bytes c.entry.result c.entry-2.result c.product-factor.result a.small p.small f.value ∙ ap₂ (λ (b d : ℤ). b *ℤ d) a.value p.value in
    let over : IsReduced before c.loop-last.work c.args.row c.args.column c.args.other c.args.work.now.width =
    reduced_over before c.loop-last.work c.args.row c.args.column c.args.other c.loop-last.from c.args.work.now.width c.requires.apart c.loop-last.invariant.inside c.loop-last.invariant.reduced (λ j low high. c.in_default.ensures.first j low) in
    subst (λ (m : Matrix). PivotsRows c.args.work.now m c.args.row c.args.column (c.args.other ∷ [])) (sym c.set-2.ensures)
    (reduced_all before c.loop-last.work c.args.row c.args.column c.args.other c.args.work.now.width c.requires.other over (to_z w8 (of_z w8 (pos 0 -ℤ to_z w8 (of_z w8 c.product-factor.result))))
    c.requires.column (omega arith) (turned ∙ ap neg_ℤ factor))

pub returns-clause-others : goal.returns-clause-others
returns-clause-others c = subst (λ (m : Matrix). KeepsRowsElsewhere c.args.work.now m (c.args.other ∷ [])) (sym c.set-2.ensures)
    (keeps_with_entry c.args.work.now c.loop-last.work c.args.other c.args.column (to_z w8 (of_z w8 (pos 0 -ℤ to_z w8 (of_z w8 c.product-factor.result)))) c.loop-last.invariant.reduced.others)

-- ---- the preconditions of the calls, and a row with 0 in the pivot's column

negated_fits : (z : ℤ) → IsEntry z → SFits w8 (pos 0 -ℤ to_z w8 (of_z w8 z))
negated_fits z small = let low = small.low in let high = small.high in omega (arith, ints)

pub product-factor-requires-clause-first : goal.product-factor-requires-clause-first
product-factor-requires-clause-first c = entry_byte c.entry.result c.entry.ensures.small

pub product-factor-requires-clause-second : goal.product-factor-requires-clause-second
product-factor-requires-clause-second c = entry_byte c.entry-2.result c.entry-2.ensures.small

pub returns-then-factor-eq0-clause-pivoted : goal.returns-then-factor-eq0-clause-pivoted
returns-then-factor-eq0-clause-pivoted c =
    let a = c.entry.ensures in let p = c.entry-2.ensures in let f = c.product-factor.ensures in
    let m = c.args.work.now in
    let factor : c.product-factor.result ≡ entry m c.args.row c.args.column *ℤ entry m c.args.other c.args.column = product_bytes c.entry.result c.entry-2.result c.product-factor.result a.small p.small f.value ∙ ap₂ (λ (b d : ℤ). b *ℤ d) a.value p.value in
    let zero = zero_below c.product-factor.result (entry m c.args.row c.args.column) (entry m c.args.other c.args.column) factor c.requires.nonzero (zero_byte c.product-factor.result f.small c.if-factor-eq0.true) in
    ((λ j h. pivoted_row (entry m) c.args.row c.args.column c.args.other j zero), tt)

pub returns-then-factor-eq0-clause-others : goal.returns-then-factor-eq0-clause-others
returns-then-factor-eq0-clause-others c = keeps_all c.args.work.now (c.args.other ∷ [])

pub next_nonzero-requires-clause-row : goal.next_nonzero-requires-clause-row
next_nonzero-requires-clause-row c = omega (arith, c.requires.row, c.loop-last.invariant.reduced.others.same_height)

pub next_nonzero-requires-clause-from : goal.next_nonzero-requires-clause-from
next_nonzero-requires-clause-from c = omega (arith, c.loop-last.invariant.inside, c.if-prove.false, c.columns.ensures.columns)

pub reduced-left-requires-clause-entry : goal.reduced-left-requires-clause-entry
reduced-left-requires-clause-entry c = entry_byte c.entry-in-Some.result c.entry-in-Some.ensures.small

pub reduced-left-requires-clause-factor : goal.reduced-left-requires-clause-factor
reduced-left-requires-clause-factor c = entry_byte c.product-factor.result c.product-factor.ensures.small

pub reduced-left-requires-clause-top : goal.reduced-left-requires-clause-top
reduced-left-requires-clause-top c = entry_byte c.entry-in-Some-2.result c.entry-in-Some-2.ensures.small

pub set-requires-clause-row : goal.set-requires-clause-row
set-requires-clause-row c = omega (arith, c.requires.other, c.loop-last.invariant.reduced.others.same_height)

pub overflow_add-from : goal.overflow_add-from
overflow_add-from c = omega (arith, c.in-Some.ensures.first.1, c.loop-last.invariant.reduced.others.same_width, c.if-prove.false, c.columns.ensures.columns)

pub loop-last-smaller : goal.loop-last-smaller
loop-last-smaller c = omega (arith, c.in-Some.ensures.first.0, c.in-Some.ensures.first.1, c.loop-last.invariant.reduced.others.same_width)

pub overflow_sub-factor : goal.overflow_sub-factor
overflow_sub-factor c = negated_fits c.product-factor.result c.product-factor.ensures.small

pub set-requires-2-clause-row : goal.set-requires-2-clause-row
set-requires-2-clause-row c = omega (arith, c.requires.other, c.loop-last.invariant.reduced.others.same_height)

pub set-requires-2-clause-column : goal.set-requires-2-clause-column
set-requires-2-clause-column c = omega (arith, c.requires.column, c.loop-last.invariant.reduced.others.same_width)

pub set-requires-2-clause-small : goal.set-requires-2-clause-small
set-requires-2-clause-small c = subst IsEntry (sym (negated_byte c.product-factor.result c.product-factor.ensures.small)) (negative_is_entry c.product-factor.result c.product-factor.ensures.small)
