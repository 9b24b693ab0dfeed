-- The remaining rows after one row is removed.
use Rattle.std.proofs.Common.{◌≡◌, ◌<◌, ◌+◌, ◌++◌, ◌∙◌, ◌⊎◌, inl, inr, ℕ, zero, suc, ℤ, pos, ◌+ℤ◌, ◌-ℤ◌, List, [], ◌∷◌, length, take, drop, get_or, refl, ap, sym, subst, arith}
use Rattle.std.specs.List.{remove}
use Rattle.std.proofs.lemmas.List.{take-append-drop}
use Rattle.std.proofs.Math.Seq.{drop-cons}
use Rattle.cmr_base.specs.Matrix.{Matrix, height, entry, IsEntry}
use Rattle.cmr_base.specs.LineSets.{IsRowSet}
use Rattle.cmr_base.specs.Signing.{IsSign}
use Rattle.cmr_base.specs.Sums.{sum_over, IsEven, IsOdd}
use Rattle.cmr_base.proofs.Integers.{sums}
use Rattle.cmr_base.proofs.Lists.{HasOneMore, sum_over-one_more, item_of_one_more}
use Rattle.cmr_base.proofs.IncreasingLists.{IncreasesIn, increases_from_lower, increasing_apart, increasing_at_least, row_set_increases, increasing_row_set}
use Rattle.ghouila.specs.Pivot.{IsOutside, HasNoPivot}
use Rattle.ghouila.proofs.SignedSums.{zero_or_sign}

pub one_more-remove : (xs : List ℕ) (k : ℕ) → k < length xs → HasOneMore (get_or xs k 0) (remove xs k) xs
one_more-remove xs k h = record {
  prefix = take k xs;
  back = drop (suc k) xs;
  fewer_is = refl;
  more_is = sym (take-append-drop k xs) ∙ ap (λ ys. take k xs ++ ys) (drop-cons xs k 0 h);
}

increases-remove : (low high : ℕ) (xs : List ℕ) (k : ℕ) → k < length xs → IncreasesIn low high xs → IncreasesIn low high (remove xs k)
increases-remove low high [] k h increases = absurd (omega arith)
increases-remove low high (x ∷ xs) zero h increases = increases_from_lower low (x + 1) high xs (omega (arith, increases.0)) increases.2
increases-remove low high (x ∷ xs) (suc k) h increases = (increases.0, increases.1, increases-remove (x + 1) high xs k (omega arith) increases.2)

apart-remove : (low high : ℕ) (xs : List ℕ) (k : ℕ) → k < length xs → IncreasesIn low high xs → IsOutside (get_or xs k 0) (remove xs k)
apart-remove low high [] k h increases = absurd (omega arith)
apart-remove low high (x ∷ xs) zero h increases = increasing_apart (x + 1) high x xs (omega arith) increases.2
apart-remove low high (x ∷ xs) (suc k) h increases = (
  let from = increasing_at_least (x + 1) high xs increases.2 k (omega arith) in omega arith,
  apart-remove (x + 1) high xs k (omega arith) increases.2,
)

pub row_set-remove : (m : Matrix) (rows : List ℕ) (k : ℕ) → k < length rows → IsRowSet m rows → IsRowSet m (remove rows k)
row_set-remove m rows k h is = increasing_row_set m (remove rows k) (increases-remove 0 (height m) rows k h (row_set_increases m rows is))

pub outside-remove : (m : Matrix) (rows : List ℕ) (k : ℕ) → k < length rows → IsRowSet m rows → IsOutside (get_or rows k 0) (remove rows k)
outside-remove m rows k h is = apart-remove 0 (height m) rows k h (row_set_increases m rows is)

-- the other rows have an odd sum in a pivot's column
pub pivot_odd : (m : Matrix) (rows left : List ℕ) (row column : ℕ) → HasOneMore row left rows → IsSign (entry m row column)
    → IsEven (sum_over rows (λ r. entry m r column)) → IsOdd (sum_over left (λ r. entry m r column))
pivot_odd m rows left row column more u even = go (entry m row column) (sum_over left (λ r. entry m r column)) u (subst IsEven (sum_over-one_more row left rows (λ r. entry m r column) more) even)
  where
    go : (a z : ℤ) → IsSign a → IsEven (a +ℤ z) → IsOdd z
    go a z (inl e) (k, f) = (k, omega (arith, sums))
    go a z (inr e) (k, f) = (k +ℤ pos 1, omega (arith, sums))

-- if no pivot exists, each column with a nonzero of the row has an even sum in the other rows
pub aside_quiet : (m : Matrix) (rows left : List ℕ) (row column : ℕ) → HasOneMore row left rows → IsEntry (entry m row column) → HasNoPivot m rows column
    → (entry m row column ≡ pos 0) ⊎ IsEven (sum_over left (λ r. entry m r column))
aside_quiet m rows left row column more small (inl zeros) = inl (item_of_one_more (λ r. entry m r column ≡ pos 0) row left rows more zeros)
aside_quiet m rows left row column more small (inr odd) = go (entry m row column) (sum_over left (λ r. entry m r column)) (zero_or_sign (entry m row column) small) (subst IsOdd (sum_over-one_more row left rows (λ r. entry m r column) more) odd)
  where
    go : (a z : ℤ) → (a ≡ pos 0) ⊎ IsSign a → IsOdd (a +ℤ z) → (a ≡ pos 0) ⊎ IsEven z
    go a z (inl e) odd = inl e
    go a z (inr (inl e)) (k, f) = inr (k -ℤ pos 1, omega (arith, sums))
    go a z (inr (inr e)) (k, f) = inr (k, omega (arith, sums))
