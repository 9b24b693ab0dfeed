-- Sums of values of which any two that are not 0 cancel.
use Rattle.std.proofs.Common.{◌≡◌, ◌≢◌, ◌<◌, ◌+◌, ◌⊎◌, inl, inr, ℕ, ℤ, pos, ◌+ℤ◌, List, [], ◌∷◌, refl, sym, subst, arith}
use Rattle.cmr_base.specs.Matrix.{IsEntry}
use Rattle.cmr_base.specs.Signing.{IsSign}
use Rattle.cmr_base.specs.Sums.{sum_over}
use Rattle.cmr_base.proofs.Integers.{sums}
use Rattle.cmr_base.proofs.IncreasingLists.{IncreasesIn, increases_from_lower}
use Rattle.cmr_base.proofs.SignEntries.{zero_or_sign, sign_nonzero, sign_is_entry, zero_is_entry}

abbrev pub Cancel : (ℕ → ℤ) → Type 0
Cancel v = (row other : ℕ) → row < other → v row ≢ pos 0 → v other ≢ pos 0 → v row +ℤ v other ≡ pos 0

zero_first : (a b : ℤ) → a ≡ pos 0 → b ≡ pos 0 → a +ℤ b ≡ pos 0
zero_first a b e f = omega (arith, sums)

skip_first : (a b : ℤ) → a ≡ pos 0 → a +ℤ b ≡ b
skip_first a b e = omega (arith, sums)

skip_last : (a b : ℤ) → b ≡ pos 0 → a +ℤ b ≡ a
skip_last a b e = omega (arith, sums)

both_first : (a b c : ℤ) → a +ℤ b ≡ pos 0 → c ≡ pos 0 → a +ℤ (b +ℤ c) ≡ pos 0
both_first a b c e f = omega (arith, sums)

no_three : (a b c : ℤ) → IsSign a → a +ℤ b ≡ pos 0 → a +ℤ c ≡ pos 0 → b +ℤ c ≡ pos 0 → ⊥
no_three a b c (inl s) e f g = omega (arith, sums)
no_three a b c (inr s) e f g = omega (arith, sums)

module _ (v : ℕ → ℤ) (small : (row : ℕ) → IsEntry (v row)) (cancel : Cancel v) where
  -- after two nonzeros there are only zeros
  after_two : (first second high : ℕ) (rows : List ℕ) → first < second → IsSign (v first) → IsSign (v second) → IncreasesIn (second + 1) high rows → sum_over rows v ≡ pos 0
  after_two first second high [] l s t increases = refl
  after_two first second high (row ∷ rows) l s t increases = go (zero_or_sign (v row) (small row))
      (after_two first second high rows l s t (increases_from_lower (second + 1) (row + 1) high rows (omega (arith, increases.0)) increases.2))
    where
      go : (v row ≡ pos 0) ⊎ IsSign (v row) → sum_over rows v ≡ pos 0 → v row +ℤ sum_over rows v ≡ pos 0
      go (inl e) rest = zero_first (v row) (sum_over rows v) e rest
      go (inr u) rest = absurd (no_three (v first) (v second) (v row) s
          (cancel first second l (sign_nonzero (v first) s) (sign_nonzero (v second) t))
          (cancel first row (omega (arith, l, increases.0)) (sign_nonzero (v first) s) (sign_nonzero (v row) u))
          (cancel second row (omega (arith, increases.0)) (sign_nonzero (v second) t) (sign_nonzero (v row) u)))

  -- after one nonzero there are zeros, and perhaps one nonzero that cancels it
  after_one : (first high : ℕ) (rows : List ℕ) → IsSign (v first) → IncreasesIn (first + 1) high rows → (sum_over rows v ≡ pos 0) ⊎ (v first +ℤ sum_over rows v ≡ pos 0)
  after_one first high [] s increases = inl refl
  after_one first high (row ∷ rows) s increases = go (zero_or_sign (v row) (small row))
      (after_one first high rows s (increases_from_lower (first + 1) (row + 1) high rows (omega (arith, increases.0)) increases.2))
      (λ u. after_two first row high rows (omega (arith, increases.0)) s u increases.2)
    where
      go : (v row ≡ pos 0) ⊎ IsSign (v row) → (sum_over rows v ≡ pos 0) ⊎ (v first +ℤ sum_over rows v ≡ pos 0) → (IsSign (v row) → sum_over rows v ≡ pos 0)
          → (v row +ℤ sum_over rows v ≡ pos 0) ⊎ (v first +ℤ (v row +ℤ sum_over rows v) ≡ pos 0)
      go (inl e) rest none = subst (λ (z : ℤ). (z ≡ pos 0) ⊎ (v first +ℤ z ≡ pos 0)) (sym (skip_first (v row) (sum_over rows v) e)) rest
      go (inr u) rest none = inr (both_first (v first) (v row) (sum_over rows v) (cancel first row (omega (arith, increases.0)) (sign_nonzero (v first) s) (sign_nonzero (v row) u)) (none u))

  pub small_sum : (low high : ℕ) (rows : List ℕ) → IncreasesIn low high rows → IsEntry (sum_over rows v)
  small_sum low high [] increases = zero_is_entry
  small_sum low high (row ∷ rows) increases = go (zero_or_sign (v row) (small row)) (small_sum (row + 1) high rows increases.2)
    where
      go : (v row ≡ pos 0) ⊎ IsSign (v row) → IsEntry (sum_over rows v) → IsEntry (v row +ℤ sum_over rows v)
      go (inl e) rest = subst IsEntry (sym (skip_first (v row) (sum_over rows v) e)) rest
      go (inr u) rest = elim (after_one row high rows u increases.2) [
        | inl e ↦ subst IsEntry (sym (skip_last (v row) (sum_over rows v) e)) (sign_is_entry (v row) u)
        | inr e ↦ subst IsEntry (sym e) zero_is_entry
      ]
