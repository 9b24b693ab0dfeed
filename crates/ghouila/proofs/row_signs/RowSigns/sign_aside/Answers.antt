use Rattle.std.proofs.Common.{◌≡◌, ◌<◌, ◌+◌, ◌∙◌, ℕ, ℤ, pos, ◌+ℤ◌, List, length, get_or, set, inl, inr, sym, subst, ap₂, arith, w8, SFits, of_z, to_z}
use Rattle.std.proofs.lemmas.Bool.{cases_eq}
use Rattle.std.proofs.lemmas.Int.{ints, to_z-of_z}
use Rattle.std.proofs.lemmas.List.{length-set, get_or-set_same, get_or-set_other, get_or_read}
use Rattle.cmr_base.specs.Matrix.{entry, IsEntry}
use Rattle.ghouila.proofs.Bytes.{kept_entry}
use Rattle.ghouila.proofs.row_signs.RowSigns.sign_aside.Goals as goal

sum_fits : (a b : ℤ) → IsEntry a → IsEntry b → SFits w8 (a +ℤ b)
sum_fits a b one two = let p = one.low in let q = one.high in let r = two.low in let s = two.high in omega (arith, ints)

byte_sum : (a b : ℤ) → IsEntry a → IsEntry b → to_z w8 (of_z w8 a) +ℤ to_z w8 (of_z w8 b) ≡ a +ℤ b
byte_sum a b one two = ap₂ (λ (x y : ℤ). x +ℤ y) (kept_entry a one) (kept_entry b two)

-- one more sum contains its entry of the row
sums_more : (first sums : List ℤ) (row : ℕ → ℤ) (k : ℕ) (value : ℤ) → k < length sums → ((j : ℕ) → j < k → get_or sums j (pos 0) ≡ get_or first j (pos 0) +ℤ row j)
    → value ≡ get_or first k (pos 0) +ℤ row k → (j : ℕ) → j < k + 1 → get_or (set sums k value) j (pos 0) ≡ get_or first j (pos 0) +ℤ row j
sums_more first sums row k value inside done is j h = elim (cases_eq j k) [
  | inl same ↦ subst (λ (i : ℕ). get_or (set sums k value) i (pos 0) ≡ get_or first i (pos 0) +ℤ row i) (sym same) (get_or-set_same sums k value (pos 0) inside ∙ is)
  | inr apart ↦ get_or-set_other sums k j value (pos 0) apart ∙ done j (omega arith)
]

pub overflow_add-index_mut : goal.overflow_add-index_mut
overflow_add-index_mut c =
    let k = c.loop-column.column in
    let so = c.loop-column.invariant in
    let old = c.index_mut-in-loop-column.result.now in
    let x = c.entry.result in
    let inside : k < length c.loop-column.self.sums.items = omega (arith, so.sum_each, c.requires.column_each, c.columns-column-end.ensures.columns, c.loop-column-test.true) in
    let was : old ≡ get_or c.args.self.now.sums.items k (pos 0) = get_or_read c.loop-column.self.sums.items k old inside c.index_mut-in-loop-column.ensures.value (pos 0) ∙ so.ahead k (omega arith) in
    let small : IsEntry old = subst IsEntry (sym was) (c.requires.small k (omega (arith, c.columns-column-end.ensures.columns, c.loop-column-test.true))) in
    subst (SFits w8) (sym (byte_sum old x small c.entry.ensures.small)) (sum_fits old x small c.entry.ensures.small)

pub loop-column-preserved : goal.loop-column-preserved
loop-column-preserved c =
    let first = c.args.self.now.sums.items in
    let sums = c.loop-column.self.sums.items in
    let k = c.loop-column.column in
    let so = c.loop-column.invariant in
    let old = c.index_mut-in-loop-column.result.now in
    let x = c.entry.result in
    let value = to_z w8 (of_z w8 (to_z w8 (of_z w8 old) +ℤ to_z w8 (of_z w8 x))) in
    let inside : k < length sums = omega (arith, so.sum_each, c.requires.column_each, c.columns-column-end.ensures.columns, c.loop-column-test.true) in
    let was : old ≡ get_or first k (pos 0) = get_or_read sums k old inside c.index_mut-in-loop-column.ensures.value (pos 0) ∙ so.ahead k (omega arith) in
    let small : IsEntry old = subst IsEntry (sym was) (c.requires.small k (omega (arith, c.columns-column-end.ensures.columns, c.loop-column-test.true))) in
    let sum = byte_sum old x small c.entry.ensures.small in
    let is : value ≡ get_or first k (pos 0) +ℤ entry c.args.work.now c.args.row k =
    to_z-of_z w8 (to_z w8 (of_z w8 old) +ℤ to_z w8 (of_z w8 x)) (subst (SFits w8) (sym sum) (sum_fits old x small c.entry.ensures.small)) ∙ sum ∙ ap₂ (λ (y z : ℤ). y +ℤ z) was c.entry.ensures.value in
    record {
      signs = so.signs;
      sum_each = length-set sums k value ∙ so.sum_each;
      done = sums_more first sums (entry c.args.work.now c.args.row) k value inside so.done is;
      ahead = λ j h. get_or-set_other sums k j value (pos 0) (λ e. omega arith) ∙ so.ahead j (omega arith);
    }

pub returns-clause-sums : goal.returns-clause-sums
returns-clause-sums c j h = c.loop-column.invariant.done j (omega (arith, h, c.columns-column-end.ensures.columns, c.loop-column-test.false))
