use Rattle.std.proofs.Common.{sym, subst, ap, ◌≡◌, ◌<◌, ◌+◌, ℕ, ℤ, pos, neg_ℤ, ◌≤ℤ◌, ◌+ℤ◌, ◌*ℤ◌, drop, arith, get_or, rules, SFits, w8, w32, of_z, to_z}
use Rattle.std.proofs.lemmas.Int.{ints, to_z-of_z}
use Rattle.std.proofs.lemmas.Option.{get_or_from_slice_get}
use Rattle.std.proofs.lemmas.List.{drop_all}
use Rattle.cmr_base.specs.declared.limits.TheConstants.{MAX_LINES}
use Rattle.cmr_base.specs.Matrix.{height, entry, IsEntry}
use Rattle.cmr_base.specs.Signing.{IsSign, signed_sum}
use Rattle.ghouila.proofs.PivotBytes.{entry_byte, kept_sign}
use Rattle.ghouila.proofs.Sums.{signed_sum_more, sign_at}
use Rattle.ghouila.proofs.plain.column_sum.Goals as goal

pub loop-place-preserved : goal.loop-place-preserved
loop-place-preserved c =
    let m = c.args.matrix.now in
    let rows = c.args.rows.now in
    let signs = c.args.signs.now in
    let column = c.args.column in
    let k = c.loop-place.place in
    let sign_fits : SFits w8 c.get-in-loop-place.result.now = search rules in
    let entry_fits : SFits w8 c.entry-entry.result = search rules in
    let value = simp to_z-of_z at c.signed_entry-sum.ensures.value in
    let sign : c.get-in-loop-place.result.now ≡ get_or signs k (pos 0) = sym (get_or_from_slice_get signs k c.get-in-loop-place.result.now (pos 0) c.get-in-loop-place.ensures) in
    let term : c.signed_entry-sum.result ≡ get_or signs k (pos 0) *ℤ entry m (get_or rows k 0) column = cc in
    let rest : signed_sum m (drop k rows) (drop k signs) column ≡ c.signed_entry-sum.result +ℤ signed_sum m (drop (k + 1) rows) (drop (k + 1) signs) column =
    rw term (signed_sum_more m rows signs column k (omega arith) (omega (arith, c.requires.choice.one_each))) in
    record {
      rest = omega (arith, ints, rest, c.loop-place.invariant.rest);
      low = omega (arith, ints);
      high = omega (arith, ints);
    }

sum_fits : (old x : ℤ) (k : ℕ) → k < MAX_LINES → neg_ℤ (pos k) ≤ℤ old → old ≤ℤ pos k → IsEntry x → SFits w32 (old +ℤ to_z w32 (of_z w32 x))
sum_fits old x k few from to small = let low = small.low in let high = small.high in omega (arith, ints)

pub loop-place-init : goal.loop-place-init
loop-place-init c = record {
  rest = omega (arith, ints);
  low = omega (arith, ints);
  high = omega (arith, ints);
}

pub entry-entry-requires-clause-row : goal.entry-entry-requires-clause-row
entry-entry-requires-clause-row c = subst (λ (row : ℕ). row < height c.args.matrix.now) (sym c.get.ensures) (c.requires.choice.in_range c.loop-place.place (omega (arith, c.loop-place-test.true, c.len-place-end.ensures.len)))

pub signed_entry-sum-requires-clause-sign : goal.signed_entry-sum-requires-clause-sign
signed_entry-sum-requires-clause-sign c =
    let signs = c.args.signs.now in
    let k = c.loop-place.place in
    let sign : get_or signs k (pos 0) ≡ c.get-in-loop-place.result.now = get_or_from_slice_get signs k c.get-in-loop-place.result.now (pos 0) c.get-in-loop-place.ensures in
    kept_sign c.get-in-loop-place.result.now (subst IsSign sign (sign_at signs k (pos 0) c.requires.choice.each (omega (arith, c.loop-place-test.true, c.len-place-end.ensures.len, c.requires.choice.one_each))))

pub signed_entry-sum-requires-clause-small : goal.signed_entry-sum-requires-clause-small
signed_entry-sum-requires-clause-small c = entry_byte c.entry-entry.result c.entry-entry.ensures.small

pub overflow_add-sum : goal.overflow_add-sum
overflow_add-sum c =
    sum_fits (to_z w32 c.loop-place.sum-bits) c.signed_entry-sum.result c.loop-place.place (omega (arith, c.loop-place-test.true, c.len-place-end.ensures.len, c.requires.choice.few)) c.loop-place.invariant.low c.loop-place.invariant.high c.signed_entry-sum.ensures.small

pub returns : goal.returns
returns c =
    let m = c.args.matrix.now in
    let k = c.loop-place.place in
    let signs = drop k c.args.signs.now in
    let nothing : signed_sum m (drop k c.args.rows.now) signs c.args.column ≡ pos 0 = ap (λ rows. signed_sum m rows signs c.args.column) (drop_all k c.args.rows.now (omega (arith, c.loop-place-test.false, c.len-place-end.ensures.len))) in
    omega (arith, ints, nothing, c.loop-place.invariant.rest)
