use Rattle.std.proofs.Common.{◌≡◌, ◌∙◌, inl, inr, ℤ, ◌-ℤ◌, ◌*ℤ◌, subst, sym, ap₂, below_more, arith, rules, w8, SFits}
use Rattle.std.proofs.lemmas.Int.{to_z-of_z}
use Rattle.std.proofs.lemmas.Bool.{false≢true}
use Rattle.cmr_base.specs.Matrix.{entry, IsEntry}
use Rattle.cmr_base.specs.Signing.{IsSign}
use Rattle.cmr_base.specs.PlacedPivots.{reduced}
use Rattle.ghouila.proofs.Bytes.{zero_byte, reduced_bytes, product_bytes}
use Rattle.ghouila.proofs.PivotBytes.{entry_byte, zero_below, reduced_row}
use Rattle.ghouila.proofs.PivotRow.{small_over}
use Rattle.ghouila.proofs.Square.{small_or_square}
use Rattle.ghouila.proofs.pivots.square_violator_in.Goals as goal

pub returns-then-not-is_entry-clause-some : goal.returns-then-not-is_entry-clause-some
returns-then-not-is_entry-clause-some c =
    let z = c.reduced-left.result in
    let fits : SFits w8 z = search rules in
    let a = c.entry.ensures in let p = c.entry-2.ensures in let x = c.entry-in-Some.ensures in let q = c.entry-in-Some-2.ensures in let f = c.product-factor.ensures in
    let value : z ≡ c.entry-in-Some.result -ℤ c.entry.result *ℤ (c.entry-2.result *ℤ c.entry-in-Some-2.result) = reduced_bytes c.entry.result c.entry-2.result c.entry-in-Some-2.result c.entry-in-Some.result c.product-factor.result z a.small p.small q.small x.small f.small f.value c.reduced-left.ensures in
    elim (small_or_square c.entry.result c.entry-2.result c.entry-in-Some-2.result c.entry-in-Some.result (subst IsSign (sym a.value) c.requires.nonzero) p.small q.small x.small) [
      | inl small ↦ absurd (false≢true (sym c.if-not-is_entry.true ∙ c.is_entry.ensures.1 (subst IsEntry (sym (to_z-of_z w8 z fits ∙ value)) small)))
      | inr square ↦ record {
        row_in = c.requires.other;
        column_in = c.in-Some.ensures.first.1;
        square = rw (← a.value, ← p.value, ← q.value, ← x.value) square;
      }
    ]

pub returns-then-not-is_entry-clause-first : goal.returns-then-not-is_entry-clause-first
returns-then-not-is_entry-clause-first c =
    small_over c.args.work.now c.args.row c.args.column c.args.other c.loop-last.from c.in-Some.last c.columns.ensures.shape c.loop-last.invariant.small c.in-Some.ensures.first.3

pub loop-last-preserved : goal.loop-last-preserved
loop-last-preserved c =
    let z = c.reduced-left.result in
    let fits : SFits w8 z = search rules in
    let a = c.entry.ensures in let p = c.entry-2.ensures in let x = c.entry-in-Some.ensures in let q = c.entry-in-Some-2.ensures in let f = c.product-factor.ensures in
    let value : z ≡ c.entry-in-Some.result -ℤ c.entry.result *ℤ (c.entry-2.result *ℤ c.entry-in-Some-2.result) = reduced_bytes c.entry.result c.entry-2.result c.entry-in-Some-2.result c.entry-in-Some.result c.product-factor.result z a.small p.small q.small x.small f.small f.value c.reduced-left.ensures in
    let is : z ≡ reduced (entry c.args.work.now) c.args.row c.args.column c.args.other c.in-Some.last = cc in
    let within = c.in-Some.ensures.first.1 in
    record {
      inside = omega (arith, within);
      small = below_more _ _ (small_over c.args.work.now c.args.row c.args.column c.args.other c.loop-last.from c.in-Some.last c.columns.ensures.shape c.loop-last.invariant.small c.in-Some.ensures.first.3)
          (subst IsEntry (to_z-of_z w8 z fits ∙ is) (c.is_entry.ensures.0 c.if-not-is_entry.false));
    }

pub returns-then-not-is_entry-clause-two : goal.returns-then-not-is_entry-clause-two
returns-then-not-is_entry-clause-two c =
    let z = c.reduced-left.result in
    let fits : SFits w8 z = search rules in
    let a = c.entry.ensures in let p = c.entry-2.ensures in let x = c.entry-in-Some.ensures in let q = c.entry-in-Some-2.ensures in let f = c.product-factor.ensures in
    let value : z ≡ c.entry-in-Some.result -ℤ c.entry.result *ℤ (c.entry-2.result *ℤ c.entry-in-Some-2.result) = reduced_bytes c.entry.result c.entry-2.result c.entry-in-Some-2.result c.entry-in-Some.result c.product-factor.result z a.small p.small q.small x.small f.small f.value c.reduced-left.ensures in
    let is : z ≡ reduced (entry c.args.work.now) c.args.row c.args.column c.args.other c.in-Some.last = cc in
    λ small. false≢true (sym c.if-not-is_entry.true ∙ c.is_entry.ensures.1 (subst IsEntry (sym (to_z-of_z w8 z fits ∙ is)) small))

pub returns-clause-none : goal.returns-clause-none
returns-clause-none c =
    small_over c.args.work.now c.args.row c.args.column c.args.other c.loop-last.from c.args.work.now.width c.columns.ensures.shape c.loop-last.invariant.small (λ j low high. c.in_default.ensures.first j low)

-- ---- the preconditions of the calls, and a row with 0 in the pivot's column

pub product-factor-requires-clause-first : goal.product-factor-requires-clause-first
product-factor-requires-clause-first c = entry_byte c.entry.result c.entry.ensures.small

pub product-factor-requires-clause-second : goal.product-factor-requires-clause-second
product-factor-requires-clause-second c = entry_byte c.entry-2.result c.entry-2.ensures.small

pub returns-then-factor-eq0-clause-none : goal.returns-then-factor-eq0-clause-none
returns-then-factor-eq0-clause-none c =
    let a = c.entry.ensures in let p = c.entry-2.ensures in let f = c.product-factor.ensures in
    let m = c.args.work.now in
    let factor : c.product-factor.result ≡ entry m c.args.row c.args.column *ℤ entry m c.args.other c.args.column = product_bytes c.entry.result c.entry-2.result c.product-factor.result a.small p.small f.value ∙ ap₂ (λ (b d : ℤ). b *ℤ d) a.value p.value in
    let zero = zero_below c.product-factor.result (entry m c.args.row c.args.column) (entry m c.args.other c.args.column) factor c.requires.nonzero (zero_byte c.product-factor.result f.small c.if-factor-eq0.true) in
    λ j h. subst IsEntry (sym (reduced_row (entry m) c.args.row c.args.column c.args.other j zero)) (c.columns.ensures.shape.small c.args.other j)

pub next_nonzero-requires-clause-from : goal.next_nonzero-requires-clause-from
next_nonzero-requires-clause-from c = omega (arith, c.loop-last.invariant.inside, c.if-prove.false, c.columns.ensures.columns)

pub reduced-left-requires-clause-entry : goal.reduced-left-requires-clause-entry
reduced-left-requires-clause-entry c = entry_byte c.entry-in-Some.result c.entry-in-Some.ensures.small

pub reduced-left-requires-clause-factor : goal.reduced-left-requires-clause-factor
reduced-left-requires-clause-factor c = entry_byte c.product-factor.result c.product-factor.ensures.small

pub reduced-left-requires-clause-top : goal.reduced-left-requires-clause-top
reduced-left-requires-clause-top c = entry_byte c.entry-in-Some-2.result c.entry-in-Some-2.ensures.small

pub overflow_add-from : goal.overflow_add-from
overflow_add-from c = omega (arith, c.in-Some.ensures.first.1, c.if-prove.false, c.columns.ensures.columns)

pub loop-last-smaller : goal.loop-last-smaller
loop-last-smaller c = omega (arith, c.in-Some.ensures.first.0, c.in-Some.ensures.first.1)
