-- Entries of a pivot, one by one.
use Rattle.std.proofs.Common.{◌≡◌, ◌≢◌, ◌<◌, inl, inr, ◌∙◌, ℕ, ℤ, ◌-ℤ◌, ◌*ℤ◌, sym, subst}
use Rattle.std.proofs.lemmas.Bool.{cases_eq}
use Rattle.cmr_base.specs.Matrix.{Matrix, height, entry, IsEntry}
use Rattle.cmr_base.specs.Violator.{IsViolator}
use Rattle.cmr_base.proofs.SignEntries.{negative_is_entry, product_is_entry}
use Rattle.cmr_base.specs.PlacedPivots.{pivot_entry}
use Rattle.ghouila.specs.PivotLaws.{IsPivotPlace}
use Rattle.ghouila.proofs.PivotSums.{pivoted_at, pivoted_apart}
use Rattle.ghouila.proofs.Square.{small_or_square}
use Rattle.ghouila.proofs.WholePivots.{entry_there, entry_in_row, entry_elsewhere}
use Rattle.pivots.specs.ChosenLines.{two_lines}
use Rattle.pivots.proofs.MadePivots.{violator_in_order}

module _ (M : ℕ → ℕ → ℤ) (r c : ℕ) where
  -- an entry that is neither in the row nor in the column of the pivot
  pub entry_apart : (i j : ℕ) → i ≢ r → j ≢ c → pivot_entry M r c i j ≡ M i j -ℤ M r c *ℤ (M i c *ℤ M r j)
  entry_apart i j other apart = entry_elsewhere M r c i j other ∙ pivoted_apart M r c i j apart

  -- the row and the column of the pivot have no 2 and no -2
  module _ (small : (i j : ℕ) → IsEntry (M i j)) where
    pub row_stays_small : (j : ℕ) → IsEntry (pivot_entry M r c r j)
    row_stays_small j = elim (cases_eq j c) [
      | inl e ↦ subst (λ k. IsEntry (pivot_entry M r c r k)) (sym e) (subst IsEntry (sym (entry_there M r c)) (small r c))
      | inr apart ↦ subst IsEntry (sym (entry_in_row M r c j apart)) (product_is_entry (M r c) (M r j) (small r c) (small r j))
    ]

    pub column_stays_small : (i : ℕ) → IsEntry (pivot_entry M r c i c)
    column_stays_small i = elim (cases_eq i r) [
      | inl e ↦ subst (λ k. IsEntry (pivot_entry M r c k c)) (sym e) (row_stays_small c)
      | inr other ↦ subst IsEntry (sym (entry_elsewhere M r c i c other ∙ pivoted_at M r c i))
          (negative_is_entry (M r c *ℤ M i c) (product_is_entry (M r c) (M i c) (small r c) (small i c)))
    ]

-- if an entry of the pivot is a 2 or a -2, its lines and those of the pivot are a violator
pub two_is_violator : (m : Matrix) (r c i j : ℕ) → IsPivotPlace m r c → ((i j : ℕ) → IsEntry (entry m i j)) → i < height m → j < m.width → ¬ (IsEntry (pivot_entry (entry m) r c i j))
    → (r ≢ i) × (c ≢ j) × IsViolator (entry m) (two_lines r i) (two_lines c j)
two_is_violator m r c i j place small i_in j_in two =
    let other : i ≢ r = λ e. two (subst (λ k. IsEntry (pivot_entry (entry m) r c k j)) (sym e) (row_stays_small (entry m) r c small j)) in
    let apart : j ≢ c = λ e. two (subst (λ k. IsEntry (pivot_entry (entry m) r c i k)) (sym e) (column_stays_small (entry m) r c small i)) in (
      λ e. other (sym e),
      λ e. apart (sym e),
      elim (small_or_square (entry m r c) (entry m i c) (entry m r j) (entry m i j) place.nonzero (small i c) (small r j) (small i j)) [
        | inl fits ↦ absurd (two (subst IsEntry (sym (entry_apart (entry m) r c i j other apart)) fits))
        | inr square ↦ violator_in_order m r c place i j (record { row_in = i_in; column_in = j_in; square = square })
      ],
    )
