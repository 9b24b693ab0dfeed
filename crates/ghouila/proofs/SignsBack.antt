-- Signs of some rows, with one row more.
use Rattle.std.proofs.Common.{◌≡◌, ◌≢◌, ◌<◌, ◌∙◌, ◌⊎◌, inl, inr, ℕ, ℤ, pos, ◌+ℤ◌, ◌*ℤ◌, List, ◌∷◌, length, get_or, set, refl, ap, sym, subst, arith}
use Rattle.std.specs.List.{AllByRecursion}
use Rattle.std.proofs.lemmas.Bool.{cases_eq}
use Rattle.std.proofs.lemmas.List.{get_or-set_same, get_or-set_other, length-set}
use Rattle.cmr_base.specs.Matrix.{Matrix, height, entry, IsEntry}
use Rattle.cmr_base.specs.Signing.{IsSign}
use Rattle.cmr_base.specs.Sums.{sum_over, IsEven, IsOdd}
use Rattle.cmr_base.proofs.Integers.{sums as integer_sums, products}
use Rattle.cmr_base.proofs.SumLaws.{sum_over_same}
use Rattle.cmr_base.proofs.Lists.{HasOneMore, all_weaker, all_both, all-one_more, sum_over-one_more}
use Rattle.cmr_base.specs.PlacedPivots.{pivoted}
use Rattle.ghouila.specs.Pivot.{IsOutside, IsTernaryRow, PivotsRows}
use Rattle.ghouila.specs.Found.{SignsRows}
use Rattle.ghouila.proofs.SignedSums.{signed, entry_zero, pivot_sign, pivot_column_vanishes, column_keeps_sum, aside_entry}

-- the same rows in another order
pub signs_reordered : (m : Matrix) (row : ℕ) (left rows : List ℕ) (signs sums : List ℤ) → HasOneMore row left rows → SignsRows m (row ∷ left) signs sums → SignsRows m rows signs sums
signs_reordered m row left rows signs sums more s = record {
  one_each = s.one_each;
  sum_each = s.sum_each;
  each = all-one_more (λ r. IsSign (get_or signs r (pos 0))) row left rows more s.each.0 s.each.1;
  sums_are = λ j h. s.sums_are j h ∙ sym (sum_over-one_more row left rows (λ r. get_or signs r (pos 0) *ℤ entry m r j) more);
  entries = s.entries;
}

module _ (m : Matrix) (row : ℕ) (left : List ℕ) (out : IsOutside row left) (row_in : row < height m) (signs : List ℤ) (one_each : length signs ≡ height m) (sign : ℤ) where
  abbrev signs' : List ℤ
  signs' = set signs row sign

  here : get_or signs' row (pos 0) ≡ sign
  here = get_or-set_same signs row sign (pos 0) (omega arith)

  -- the signs of the other rows do not change
  others : AllByRecursion (λ r. get_or signs' r (pos 0) ≡ get_or signs r (pos 0)) left
  others = all_weaker (λ r. r ≢ row) (λ r. get_or signs' r (pos 0) ≡ get_or signs r (pos 0)) (λ r apart. get_or-set_other signs row r sign (pos 0) apart) left out

  pub each_with : IsSign sign → AllByRecursion (λ r. IsSign (get_or signs r (pos 0))) left → AllByRecursion (λ r. IsSign (get_or signs' r (pos 0))) (row ∷ left)
  each_with u each = (
    subst IsSign (sym here) u,
    all_both (λ r. get_or signs' r (pos 0) ≡ get_or signs r (pos 0)) (λ r. IsSign (get_or signs r (pos 0))) (λ r. IsSign (get_or signs' r (pos 0))) (λ r e. subst IsSign (sym e)) left others each,
  )

  pub sum_with : (f : ℕ → ℤ) → sum_over (row ∷ left) (λ r. get_or signs' r (pos 0) *ℤ f r) ≡ sign *ℤ f row +ℤ signed (λ r. get_or signs r (pos 0)) left f
  sum_with f =
      ap (λ z. z *ℤ f row +ℤ sum_over left (λ r. get_or signs' r (pos 0) *ℤ f r)) here
      ∙ ap (λ z. sign *ℤ f row +ℤ z) (sum_over_same left (λ r. get_or signs' r (pos 0) *ℤ f r) (λ r. get_or signs r (pos 0) *ℤ f r)
      (all_weaker (λ r. get_or signs' r (pos 0) ≡ get_or signs r (pos 0)) (λ r. get_or signs' r (pos 0) *ℤ f r ≡ get_or signs r (pos 0) *ℤ f r) (λ r e. ap (λ z. z *ℤ f r) e) left others))

-- the signs before a pivot
pub signs_before_pivot : (before after : Matrix) (row column : ℕ) (left : List ℕ) (signs sums : List ℤ) → height after ≡ height before
    → after.width ≡ before.width → row < height before → column < before.width → IsOutside row left
    → IsSign (entry before row column) → IsOdd (sum_over left (λ r. entry before r column)) → PivotsRows before after row column left → SignsRows after left signs sums
    → SignsRows before (row ∷ left) (set signs row (get_or sums column (pos 0))) (set sums column (pos 0))
signs_before_pivot before after row column left signs sums same_height same_width row_in column_in out u odd pivots s = record {
  one_each = length-set signs row sign ∙ one_each;
  sum_each = length-set sums column (pos 0) ∙ s.sum_each ∙ same_width;
  each = each_with before row left out row_in signs one_each sign (subst IsSign (sym sigma) (pivot_sign at (λ r. r) (entry before) row column left u s.each odd (subst IsEntry sigma (s.entries column (omega arith))))) s.each;
  sums_are = λ j h. elim (cases_eq j column) [
    | inl e ↦ subst (λ k. get_or (set sums column (pos 0)) k (pos 0) ≡ sum_over (row ∷ left) (λ r. get_or (set signs row sign) r (pos 0) *ℤ entry before r k)) (sym e) at_column
    | inr other ↦ get_or-set_other sums column j (pos 0) (pos 0) other ∙ sum_is j h
        ∙ sym (sum_with before row left out row_in signs one_each sign (λ r. entry before r j) ∙ ap (λ z. z *ℤ entry before row j +ℤ signed at left (λ r. entry before r j)) sigma ∙ column_keeps_sum at (λ r. r) (entry before) row column left u j other)
  ];
  entries = λ j h. elim (cases_eq j column) [
    | inl e ↦ subst (λ k. IsEntry (get_or (set sums column (pos 0)) k (pos 0))) (sym e) (subst IsEntry (sym zero_there) entry_zero)
    | inr other ↦ subst IsEntry (sym (get_or-set_other sums column j (pos 0) (pos 0) other)) (s.entries j (omega arith))
  ];
}
  where
    at : ℕ → ℤ
    at r = get_or signs r (pos 0)

    sign : ℤ
    sign = get_or sums column (pos 0)

    one_each : length signs ≡ height before
    one_each = s.one_each ∙ same_height

    sum_is : (j : ℕ) → j < before.width → get_or sums j (pos 0) ≡ signed (λ r. get_or signs r (pos 0)) left (λ r. pivoted (entry before) row column r j)
    sum_is j h = s.sums_are j (omega arith) ∙ sum_over_same left (λ r. get_or signs r (pos 0) *ℤ entry after r j) (λ r. get_or signs r (pos 0) *ℤ pivoted (entry before) row column r j)
        (all_weaker (λ r. (j : ℕ) → j < before.width → entry after r j ≡ pivoted (entry before) row column r j) (λ r. get_or signs r (pos 0) *ℤ entry after r j ≡ get_or signs r (pos 0) *ℤ pivoted (entry before) row column r j)
        (λ r is. ap (λ z. get_or signs r (pos 0) *ℤ z) (is j h)) left pivots)

    sigma : get_or sums column (pos 0) ≡ signed (λ r. get_or signs r (pos 0)) left (λ r. pivoted (entry before) row column r column)
    sigma = sum_is column column_in

    zero_there : get_or (set sums column (pos 0)) column (pos 0) ≡ pos 0
    zero_there = get_or-set_same sums column (pos 0) (pos 0) (let w = s.sum_each in omega arith)

    at_column : get_or (set sums column (pos 0)) column (pos 0) ≡ sum_over (row ∷ left) (λ r. get_or (set signs row (get_or sums column (pos 0))) r (pos 0) *ℤ entry before r column)
    at_column = zero_there ∙ sym (sum_with before row left out row_in signs (s.one_each ∙ same_height) (get_or sums column (pos 0)) (λ r. entry before r column)
        ∙ ap (λ z. z *ℤ entry before row column +ℤ signed (λ r. get_or signs r (pos 0)) left (λ r. entry before r column)) sigma
        ∙ pivot_column_vanishes (λ r. get_or signs r (pos 0)) (λ r. r) (entry before) row column left u)

-- the signs with a row that was put aside
pub signs_with_aside : (m : Matrix) (row : ℕ) (left : List ℕ) (signs sums sums' : List ℤ) → row < height m → IsOutside row left → IsTernaryRow m.width (entry m row)
    → ((column : ℕ) → column < m.width → (entry m row column ≡ pos 0) ⊎ IsEven (sum_over left (λ r. entry m r column))) → SignsRows m left signs sums
    → length sums' ≡ length sums → ((column : ℕ) → column < m.width → get_or sums' column (pos 0) ≡ get_or sums column (pos 0) +ℤ entry m row column)
    → SignsRows m (row ∷ left) (set signs row (pos 1)) sums'
signs_with_aside m row left signs sums sums' row_in out small quiet s same_length added = record {
  one_each = length-set signs row (pos 1) ∙ s.one_each;
  sum_each = same_length ∙ s.sum_each;
  each = each_with m row left out row_in signs s.one_each (pos 1) (inl refl) s.each;
  sums_are = λ j h. is j h;
  entries = λ j h. subst IsEntry (sym (is j h ∙ sum_with m row left out row_in signs s.one_each (pos 1) (λ r. entry m r j) ∙ one (entry m row j) (signed (λ r. get_or signs r (pos 0)) left (λ r. entry m r j))))
      (aside_entry (λ r. get_or signs r (pos 0)) left (λ r. entry m r j) (entry m row j) s.each (small j h) (subst IsEntry (s.sums_are j h) (s.entries j h)) (quiet j h));
}
  where
    one : (x w : ℤ) → pos 1 *ℤ x +ℤ w ≡ x +ℤ w
    one x w = simp products

    swap : (x w : ℤ) → w +ℤ x ≡ pos 1 *ℤ x +ℤ w
    swap x w = simp products (omega (arith, integer_sums))

    is : (j : ℕ) → j < m.width → get_or sums' j (pos 0) ≡ sum_over (row ∷ left) (λ r. get_or (set signs row (pos 1)) r (pos 0) *ℤ entry m r j)
    is j h = added j h ∙ ap (λ z. z +ℤ entry m row j) (s.sums_are j h) ∙ swap (entry m row j) (signed (λ r. get_or signs r (pos 0)) left (λ r. entry m r j))
        ∙ sym (sum_with m row left out row_in signs s.one_each (pos 1) (λ r. entry m r j))
