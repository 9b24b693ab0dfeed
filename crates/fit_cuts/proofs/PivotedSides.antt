-- A pivot inside one side of a cut keeps the other side fit, and keeps it not fit.
use Rattle.std.proofs.Common.{◌≡◌, ◌≢◌, ◌<◌, ◌⊎◌, inl, inr, ◌∙◌, ℕ, ℤ, pos, neg_ℤ, ◌*ℤ◌, ◌-ℤ◌, false, not, ap, sym, subst, arith}
use Rattle.std.proofs.lemmas.Bool.{false≢true}
use Rattle.cmr_base.specs.declared.line.Line.TheVariants.{Column, Row}
use Rattle.cmr_base.specs.Matrix.{Matrix, height, entry, HasTernaryEntries, IsEntry}
use Rattle.cmr_base.specs.PlacedPivots.{reduced}
use Rattle.cmr_base.specs.Separations.{Lines, opposite}
use Rattle.cmr_base.specs.Signing.{IsSign}
use Rattle.cmr_base.proofs.Booleans.{not_is}
use Rattle.cmr_base.proofs.Integers.{sums, products}
use Rattle.cmr_base.proofs.SignEntries.{sign-mul, sign_nonzero, sign_of_entry, zero_or_sign}
use Rattle.ghouila.specs.PivotLaws.{pivot_at}
use Rattle.ghouila.proofs.PivotLaws.{entry_after, pivots_undo_themselves, same_height}
use Rattle.ghouila.proofs.PivotSums.{pivoted_apart, pivoted_at}
use Rattle.ghouila.proofs.WholePivots.{entry_elsewhere, entry_in_row, entry_there}
use Rattle.cuts.specs.LineCuts.{IsCut}
use Rattle.cuts.proofs.WordLemmas.{first_zero, second_zero}
use Rattle.block_ranks.proofs.KeptCuts.{kept}
use Rattle.path_places.specs.PathPlaces.{IsEndColumn, IsEndRow, IsFit}
use Rattle.fit_cuts.specs.PivotedSides.{IsPivotOn, PivotsKeepFitSides}
use Rattle.fit_cuts.proofs.CutEnds.{far_column_sign, far_row_sign, lower_corner, lower_entry, upper_corner, upper_entry}

-- ---- entries after a pivot

negative_nonzero : (z : ℤ) → IsSign z → neg_ℤ z ≢ pos 0
negative_nonzero z (inl e) f = omega (arith, sums)
negative_nonzero z (inr e) f = omega (arith, sums)

pub unchanged_first : (x b u y : ℤ) → u ≡ pos 0 → x -ℤ b *ℤ (u *ℤ y) ≡ x
unchanged_first x b u y e = rw e (simp products (omega (arith, sums)))

pub unchanged_second : (x b u y : ℤ) → y ≡ pos 0 → x -ℤ b *ℤ (u *ℤ y) ≡ x
unchanged_second x b u y e = rw e (simp products (omega (arith, sums)))

-- a zero less a sign, and a sign less a sign
pub zero_less : (x w : ℤ) → IsSign w → x ≡ pos 0 → x -ℤ w ≢ pos 0
zero_less x w (inl e) h f = omega (arith, sums)
zero_less x w (inr e) h f = omega (arith, sums)

pub sign_less : (x w : ℤ) → IsSign x → IsSign w → IsEntry (x -ℤ w) → x -ℤ w ≡ pos 0
sign_less x w (inl e) (inl f) h = omega (arith, sums)
sign_less x w (inl e) (inr f) h = absurd (let high = h.high in omega (arith, sums))
sign_less x w (inr e) (inl f) h = absurd (let low = h.low in omega (arith, sums))
sign_less x w (inr e) (inr f) h = omega (arith, sums)

module _ (m : Matrix) (T : Lines) (small : HasTernaryEntries m) (cut : IsCut m T) (s t : ℕ) (on : IsPivotOn m T s t) (ternary : HasTernaryEntries (pivot_at m s t)) where
  abbrev n : Matrix
  n = pivot_at m s t

  abbrev M : ℕ → ℕ → ℤ
  M = entry m

  abbrev E : ℕ → ℕ → ℤ
  E = entry n

  at_row : (c : ℕ) → c < m.width → c ≢ t → E s c ≡ M s t *ℤ M s c
  at_row c lc d = entry_after m s t on.at s c on.at.row_in lc ∙ entry_in_row M s t c d

  at_column : (r : ℕ) → r < height m → r ≢ s → E r t ≡ neg_ℤ (M s t *ℤ M r t)
  at_column r lr d = entry_after m s t on.at r t lr on.at.column_in ∙ entry_elsewhere M s t r t d ∙ pivoted_at M s t r

  elsewhere : (r c : ℕ) → r < height m → c < m.width → r ≢ s → c ≢ t → E r c ≡ reduced M s t r c
  elsewhere r c lr lc d e = entry_after m s t on.at r c lr lc ∙ entry_elsewhere M s t r c d ∙ pivoted_apart M s t r c e

  -- a row of side two, and a column of side two
  other_row : (r : ℕ) → T (Row r) ≡ false → r ≢ s
  other_row r er e = false≢true (sym er ∙ (ap (λ (x : ℕ). T (Row x)) e ∙ on.row_on))

  other_column : (c : ℕ) → T (Column c) ≡ false → c ≢ t
  other_column c ec e = false≢true (sym ec ∙ (ap (λ (x : ℕ). T (Column x)) e ∙ on.column_on))

  row_after : (r : ℕ) → r < height m → r < height n
  row_after r l = let heights = same_height m s t on.at in omega arith

  -- ---- the ends of side two are still ends

  end_row_after : (r : ℕ) → IsEndRow m (opposite T) r → IsEndRow n (opposite T) r
  end_row_after r end = elim (zero_or_sign (M r t) (small r t)) [
    | inr u ↦ record {
      on = (row_after r end.on.0, end.on.1);
      across = t;
      far = (on.at.column_in, ap not (ap not on.column_on));
      nonzero = λ e. negative_nonzero (M s t *ℤ M r t) (sign-mul (M s t) (M r t) on.at.nonzero u) (sym (at_column r end.on.0 apart) ∙ e);
    }
    | inl none ↦ record {
      on = (row_after r end.on.0, end.on.1);
      across = end.across;
      far = end.far;
      nonzero = λ e. end.nonzero (sym (unchanged_first (M r end.across) (M s t) (M r t) (M s end.across) none)
          ∙ sym (elsewhere r end.across end.on.0 end.far.0 apart (λ f. end.nonzero (ap (λ (x : ℕ). M r x) f ∙ none))) ∙ e);
    }
  ]
    where
      apart : r ≢ s
      apart = other_row r (not_is (T (Row r)) end.on.1)

  end_column_after : (c : ℕ) → IsEndColumn m (opposite T) c → IsEndColumn n (opposite T) c
  end_column_after c end = elim (zero_or_sign (M s c) (small s c)) [
    | inr u ↦ record {
      on = end.on;
      across = s;
      far = (row_after s on.at.row_in, ap not (ap not on.row_on));
      nonzero = λ e. sign_nonzero (M s t *ℤ M s c) (sign-mul (M s t) (M s c) on.at.nonzero u) (sym (at_row c end.on.0 apart) ∙ e);
    }
    | inl none ↦ record {
      on = end.on;
      across = end.across;
      far = (row_after end.across end.far.0, end.far.1);
      nonzero = λ e. end.nonzero (sym (unchanged_second (M end.across c) (M s t) (M end.across t) (M s c) none)
          ∙ sym (elsewhere end.across c end.far.0 end.on.0 (λ f. end.nonzero (ap (λ (x : ℕ). M x c) f ∙ none)) apart) ∙ e);
    }
  ]
    where
      apart : c ≢ t
      apart = other_column c (not_is (T (Column c)) end.on.1)

  -- ---- the entries at the ends of side two

  module _ (r c : ℕ) (er : IsEndRow m (opposite T) r) (ec : IsEndColumn m (opposite T) c) where
    here : E r c ≡ reduced M s t r c
    here = elsewhere r c er.on.0 ec.on.0 (other_row r (not_is (T (Row r)) er.on.1)) (other_column c (not_is (T (Column c)) ec.on.1))

    in_column : M r t ≡ M r cut.corners.one.column *ℤ (M cut.corners.two.row t *ℤ M cut.corners.two.row cut.corners.one.column)
    in_column = lower_entry m T small cut r t er.on.0 on.at.column_in (not_is (T (Row r)) er.on.1) on.column_on

    in_row : M s c ≡ M s cut.corners.two.column *ℤ (M cut.corners.one.row c *ℤ M cut.corners.one.row cut.corners.two.column)
    in_row = upper_entry m T small cut s c on.at.row_in ec.on.0 on.row_on (not_is (T (Column c)) ec.on.1)

    -- the entry is kept if the row of the pivot is no end of side one, or the column is none
    kept_by_column : M cut.corners.two.row t ≡ pos 0 → E r c ≡ M r c
    kept_by_column e = here
        ∙ unchanged_first (M r c) (M s t) (M r t) (M s c) (in_column ∙ second_zero (M r cut.corners.one.column) (M cut.corners.two.row t) (M cut.corners.two.row cut.corners.one.column) e)

    kept_by_row : M s cut.corners.two.column ≡ pos 0 → E r c ≡ M r c
    kept_by_row e = here
        ∙ unchanged_second (M r c) (M s t) (M r t) (M s c) (in_row ∙ first_zero (M s cut.corners.two.column) (M cut.corners.one.row c) (M cut.corners.one.row cut.corners.two.column) e)

    -- and otherwise zeros become nonzeros, and nonzeros zeros
    module _ (u : IsSign (M cut.corners.two.row t)) (v : IsSign (M s cut.corners.two.column)) where
      step : IsSign (M s t *ℤ (M r t *ℤ M s c))
      step = sign-mul (M s t) (M r t *ℤ M s c) on.at.nonzero (sign-mul (M r t) (M s c) (subst IsSign (sym in_column) column_sign) (subst IsSign (sym in_row) row_sign))
        where
          column_sign : IsSign (M r cut.corners.one.column *ℤ (M cut.corners.two.row t *ℤ M cut.corners.two.row cut.corners.one.column))
          column_sign = sign-mul (M r cut.corners.one.column) (M cut.corners.two.row t *ℤ M cut.corners.two.row cut.corners.one.column) (far_row_sign m T small cut r er)
              (sign-mul (M cut.corners.two.row t) (M cut.corners.two.row cut.corners.one.column) u (lower_corner m T small cut))

          row_sign : IsSign (M s cut.corners.two.column *ℤ (M cut.corners.one.row c *ℤ M cut.corners.one.row cut.corners.two.column))
          row_sign = sign-mul (M s cut.corners.two.column) (M cut.corners.one.row c *ℤ M cut.corners.one.row cut.corners.two.column) v
              (sign-mul (M cut.corners.one.row c) (M cut.corners.one.row cut.corners.two.column) (far_column_sign m T small cut c ec) (upper_corner m T small cut))

      becomes_nonzero : M r c ≡ pos 0 → E r c ≢ pos 0
      becomes_nonzero e f = zero_less (M r c) (M s t *ℤ (M r t *ℤ M s c)) step e (sym here ∙ f)

      becomes_zero : M r c ≢ pos 0 → E r c ≡ pos 0
      becomes_zero e = here ∙ sign_less (M r c) (M s t *ℤ (M r t *ℤ M s c)) (sign_of_entry (M r c) (small r c) e) step (subst IsEntry here (ternary r c))

  pub fit_after : IsFit m (opposite T) → IsFit n (opposite T)
  fit_after ((r, c, er, ec, zero), (x, y, ex, ey, nonzero)) =
      go (zero_or_sign (M cut.corners.two.row t) (small cut.corners.two.row t)) (zero_or_sign (M s cut.corners.two.column) (small s cut.corners.two.column))
    where
      same : E r c ≡ M r c → E x y ≡ M x y → IsFit n (opposite T)
      same e f = ((r, c, end_row_after r er, end_column_after c ec, e ∙ zero), (x, y, end_row_after x ex, end_column_after y ey, λ h. nonzero (sym f ∙ h)))

      go : (M cut.corners.two.row t ≡ pos 0) ⊎ IsSign (M cut.corners.two.row t) → (M s cut.corners.two.column ≡ pos 0) ⊎ IsSign (M s cut.corners.two.column) → IsFit n (opposite T)
      go (inl e) f = same (kept_by_column r c er ec e) (kept_by_column x y ex ey e)
      go (inr u) (inl e) = same (kept_by_row r c er ec e) (kept_by_row x y ex ey e)
      go (inr u) (inr v) = (
        (x, y, end_row_after x ex, end_column_after y ey, becomes_zero x y ex ey u v nonzero),
        (r, c, end_row_after r er, end_column_after c ec, becomes_nonzero r c er ec u v zero),
      )

  pub kept_cut : IsCut n T
  kept_cut = kept m T small cut s t on.at.row_in on.at.column_in on.row_on on.column_on (sign_nonzero (M s t) on.at.nonzero) ternary

  -- the same position in the matrix after the pivot
  pub on_after : IsPivotOn n T s t
  on_after = record {
    at = record {
      row_in = row_after s on.at.row_in;
      column_in = on.at.column_in;
      nonzero = subst IsSign (sym (entry_after m s t on.at s t on.at.row_in on.at.column_in ∙ entry_there M s t)) on.at.nonzero;
    };
    row_on = on.row_on;
    column_on = on.column_on;
  }

pub pivots_keep_fit_sides : PivotsKeepFitSides
pivots_keep_fit_sides m T s t is cut on ternary = record {
  cut = kept_cut m T is.small cut s t on ternary;
  fit = (fit_after m T is.small cut s t on ternary, fit_before);
}
  where
    back : pivot_at (pivot_at m s t) s t ≡ m
    back = pivots_undo_themselves m s t is.rectangular on.at

    fit_before : IsFit (pivot_at m s t) (opposite T) → IsFit m (opposite T)
    fit_before fit = subst (λ (k : Matrix). IsFit k (opposite T)) back
        (fit_after (pivot_at m s t) T ternary (kept_cut m T is.small cut s t on ternary) s t (on_after m T is.small cut s t on ternary) (subst HasTernaryEntries (sym back) is.small) fit)
