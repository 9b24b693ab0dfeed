-- Alternating signs are a signing of each set of rows of a matrix with interval columns.
use Rattle.std.proofs.Common.{◌≡◌, ◌≢◌, ◌<◌, ◌+◌, ◌⊎◌, ◌∙◌, inl, inr, ℕ, suc, ℤ, pos, ◌+ℤ◌, ◌*ℤ◌, ◌-ℤ◌, neg_ℤ, List, [], ◌∷◌, length, refl, ap, sym, subst, arith}
use Rattle.std.proofs.Math.Path.{fun_ext}
use Rattle.std.specs.List.{AllByRecursion}
use Rattle.cmr_base.specs.Matrix.{Matrix, height, entry, transposed, IsEntry, IsTernary}
use Rattle.cmr_base.specs.Signing.{IsSign, signed_sum, IsTotallyUnimodular}
use Rattle.cmr_base.specs.Violator.{HasNoViolator}
use Rattle.cmr_base.proofs.Integers.{one-mul, products, sums}
use Rattle.cmr_base.proofs.IncreasingLists.{IncreasesIn, increases_from_lower, row_set_increases}
use Rattle.cmr_base.proofs.Parts.{entry-transposed_rectangular, is_ternary-transposed}
use Rattle.cmr_base.proofs.SignEntries.{negative_is_entry, sign_is_entry, sign_nonzero, zero_is_entry, zero_or_sign}
use Rattle.cmr_base.proofs.TransposedLemmas.{none_from_transposed_rectangular}
use Rattle.ghouila.proofs.CamionLaw.{camion}
use Rattle.interval_matrices.specs.Intervals.{HasIntervalColumns, HasIntervalRows, IsInterval}
use Rattle.interval_matrices.specs.IntervalLaws.{IntervalMatricesAreUnimodular}

-- the values in turn added and subtracted
abbrev alternating_sum : List ℕ → (ℕ → ℤ) → ℤ
alternating_sum [] v = pos 0
alternating_sum (row ∷ rows) v = v row -ℤ alternating_sum rows v

abbrev alternating_signs : ℤ → List ℕ → List ℤ
alternating_signs sign [] = []
alternating_signs sign (row ∷ rows) = sign ∷ alternating_signs (neg_ℤ sign) rows

negative_sign : (z : ℤ) → IsSign z → IsSign (neg_ℤ z)
negative_sign z (inl e) = rw e (inr refl)
negative_sign z (inr e) = rw e (inl refl)

length-alternating : (sign : ℤ) (rows : List ℕ) → length (alternating_signs sign rows) ≡ length rows
length-alternating sign [] = refl
length-alternating sign (row ∷ rows) = ap suc (length-alternating (neg_ℤ sign) rows)

signs-alternating : (sign : ℤ) (rows : List ℕ) → IsSign sign → AllByRecursion IsSign (alternating_signs sign rows)
signs-alternating sign [] s = tt
signs-alternating sign (row ∷ rows) s = (s, signs-alternating (neg_ℤ sign) rows (negative_sign sign s))

turned : (s a b : ℤ) → s *ℤ a +ℤ neg_ℤ s *ℤ b ≡ s *ℤ (a -ℤ b)
turned s a b = simp products (omega (arith, sums))

signed_sum-alternating : (m : Matrix) (sign : ℤ) (rows : List ℕ) (column : ℕ) → signed_sum m rows (alternating_signs sign rows) column ≡ sign *ℤ alternating_sum rows (λ row. entry m row column)
signed_sum-alternating m sign [] column = simp products
signed_sum-alternating m sign (row ∷ rows) column =
    ap (λ (z : ℤ). sign *ℤ entry m row column +ℤ z) (signed_sum-alternating m (neg_ℤ sign) rows column)
    ∙ turned sign (entry m row column) (alternating_sum rows (λ r. entry m r column))

zero_less_zero : (a b : ℤ) → a ≡ pos 0 → b ≡ pos 0 → a -ℤ b ≡ pos 0
zero_less_zero a b e f = omega (arith, sums)

less_zero : (a b u : ℤ) → a ≡ u → b ≡ pos 0 → a -ℤ b ≡ u
less_zero a b u e f = omega (arith, sums)

less_same : (a b u : ℤ) → a ≡ u → b ≡ u → a -ℤ b ≡ pos 0
less_same a b u e f = omega (arith, sums)

zero_less : (a b : ℤ) → a ≡ pos 0 → a -ℤ b ≡ neg_ℤ b
zero_less a b e = omega (arith, sums)

module _ (v : ℕ → ℤ) (small : (row : ℕ) → IsEntry (v row)) (interval : IsInterval v) where
  -- after a zero that is after a nonzero there are only zeros
  after_gap : (first gap high : ℕ) (rows : List ℕ) → first < gap → v first ≢ pos 0 → v gap ≡ pos 0 → IncreasesIn (gap + 1) high rows → alternating_sum rows v ≡ pos 0
  after_gap first gap high [] l h e increases = refl
  after_gap first gap high (row ∷ rows) l h e increases =
      zero_less_zero (v row) (alternating_sum rows v) (here (zero_or_sign (v row) (small row)))
      (after_gap first gap high rows l h e (increases_from_lower (gap + 1) (row + 1) high rows (omega (arith, increases.0)) increases.2))
    where
      here : (v row ≡ pos 0) ⊎ IsSign (v row) → v row ≡ pos 0
      here (inl z) = z
      here (inr s) = absurd (interval.consecutive first gap row l (omega (arith, increases.0)) h (sign_nonzero (v row) s) e)

  -- after a nonzero the sum is 0 or this nonzero
  after_first : (first high : ℕ) (rows : List ℕ) → v first ≢ pos 0 → IncreasesIn (first + 1) high rows → (alternating_sum rows v ≡ pos 0) ⊎ (alternating_sum rows v ≡ v first)
  after_first first high [] h increases = inl refl
  after_first first high (row ∷ rows) h increases = go (zero_or_sign (v row) (small row)) (λ g. after_first row high rows g increases.2)
    where
      go : (v row ≡ pos 0) ⊎ IsSign (v row) → (v row ≢ pos 0 → (alternating_sum rows v ≡ pos 0) ⊎ (alternating_sum rows v ≡ v row))
          → (v row -ℤ alternating_sum rows v ≡ pos 0) ⊎ (v row -ℤ alternating_sum rows v ≡ v first)
      go (inl z) rest = inl (zero_less_zero (v row) (alternating_sum rows v) z (after_gap first row high rows (omega (arith, increases.0)) h z increases.2))
      go (inr s) rest =
          let same : v row ≡ v first = interval.equal row first (sign_nonzero (v row) s) h in
          elim (rest (sign_nonzero (v row) s)) [
            | inl e ↦ inr (less_zero (v row) (alternating_sum rows v) (v first) same e)
            | inr e ↦ inl (less_same (v row) (alternating_sum rows v) (v row) refl e)
          ]

  small_sum : (low high : ℕ) (rows : List ℕ) → IncreasesIn low high rows → IsEntry (alternating_sum rows v)
  small_sum low high [] increases = zero_is_entry
  small_sum low high (row ∷ rows) increases = go (zero_or_sign (v row) (small row)) (small_sum (row + 1) high rows increases.2)
    where
      go : (v row ≡ pos 0) ⊎ IsSign (v row) → IsEntry (alternating_sum rows v) → IsEntry (v row -ℤ alternating_sum rows v)
      go (inl z) rest = subst IsEntry (sym (zero_less (v row) (alternating_sum rows v) z)) (negative_is_entry (alternating_sum rows v) rest)
      go (inr s) rest = elim (after_first row high rows (sign_nonzero (v row) s) increases.2) [
        | inl e ↦ subst IsEntry (sym (less_zero (v row) (alternating_sum rows v) (v row) refl e)) (sign_is_entry (v row) s)
        | inr e ↦ subst IsEntry (sym (less_same (v row) (alternating_sum rows v) (v row) refl e)) zero_is_entry
      ]

interval_columns : (m : Matrix) → IsTernary m → HasIntervalColumns m → IsTotallyUnimodular m × HasNoViolator m
interval_columns m is intervals = (signings, (camion m is.small).0 signings)
  where
    signings : IsTotallyUnimodular m
    signings rows row_set = (
      alternating_signs (pos 1) rows,
      record {
        one_each = length-alternating (pos 1) rows;
        each = signs-alternating (pos 1) rows (inl refl);
        sums = λ column l. subst IsEntry (sym (signed_sum-alternating m (pos 1) rows column ∙ one-mul (alternating_sum rows (λ row. entry m row column))))
            (small_sum (λ row. entry m row column) (λ row. is.small row column) (intervals column) 0 (height m) rows (row_set_increases m rows row_set));
      },
    )

transposed_columns : (m : Matrix) → IsTernary m → HasIntervalRows m → HasIntervalColumns (transposed m)
transposed_columns m is intervals row = subst IsInterval (sym (fun_ext (λ column. entry-transposed_rectangular m row column is.rectangular))) (intervals row)

pub intervals_are_unimodular : IntervalMatricesAreUnimodular
intervals_are_unimodular m is (inl columns) = interval_columns m is columns
intervals_are_unimodular m is (inr rows) =
    let none = none_from_transposed_rectangular m is.rectangular (interval_columns (transposed m) (is_ternary-transposed m is) (transposed_columns m is rows)).1 in
    ((camion m is.small).1 none, none)
