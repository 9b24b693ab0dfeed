-- The pivot at the first edge of a shortest path: the next row of the path becomes an end, and the rest of the path stays as it is.
use Rattle.std.proofs.Common.{◌≡◌, ◌≢◌, ◌<◌, ◌⊎◌, inl, inr, ◌∙◌, ℕ, zero, suc, ℤ, pos, neg_ℤ, ◌*ℤ◌, Bool, true, false, not, refl, ap, sym, subst, arith}
use Rattle.cmr_base.specs.declared.line.Line.TheVariants.{Column, Row}
use Rattle.cmr_base.specs.Matrix.{Matrix, height, entry, HasTernaryEntries, IsEntry}
use Rattle.cmr_base.specs.PlacedPivots.{reduced}
use Rattle.cmr_base.specs.Separations.{Lines, opposite}
use Rattle.cmr_base.specs.Signing.{IsSign}
use Rattle.cmr_base.proofs.Booleans.{same_or_not}
use Rattle.cmr_base.proofs.Integers.{products}
use Rattle.cmr_base.proofs.SignEntries.{sign-mul, sign_nonzero, sign_of_entry, zero_or_sign}
use Rattle.ghouila.specs.PivotLaws.{IsPivotPlace, pivot_at}
use Rattle.ghouila.proofs.PivotLaws.{entry_after, same_height}
use Rattle.ghouila.proofs.PivotSums.{pivoted_apart, pivoted_at}
use Rattle.ghouila.proofs.WholePivots.{entry_elsewhere, entry_in_row}
use Rattle.path_places.specs.PathPlaces.{HasWalk, IsColumnOn, IsEndColumn, IsEndRow, IsFirstEdge, IsFit, IsInnerColumn, IsInnerRow, IsPathPlace, IsRowOn}
use Rattle.fit_cuts.specs.ShorterPaths.{HasShorterPath, PivotsShortenPaths}
use Rattle.fit_cuts.proofs.PivotedSides.{sign_less, unchanged_first, unchanged_second, zero_less}

times_zero : (x y : ℤ) → y ≡ pos 0 → x *ℤ y ≡ pos 0
times_zero x y e = rw e (simp products)

negative_zero : (x y : ℤ) → y ≡ pos 0 → neg_ℤ (x *ℤ y) ≡ pos 0
negative_zero x y e = rw e (simp products)

module _ (m : Matrix) (T : Lines) (s t : ℕ) (small : HasTernaryEntries m) (place : IsPathPlace m T s t) (ternary : HasTernaryEntries (pivot_at m s t)) where
  abbrev n : Matrix
  n = pivot_at m s t

  abbrev M : ℕ → ℕ → ℤ
  M = entry m

  abbrev E : ℕ → ℕ → ℤ
  E = entry n

  start : IsEndRow m T s
  start = place.edge.end

  inner : IsInnerColumn m T t
  inner = place.edge.inner

  sign : IsSign (M s t)
  sign = sign_of_entry (M s t) (small s t) place.edge.nonzero

  at : IsPivotPlace m s t
  at = record { row_in = start.on.0; column_in = inner.0.0; nonzero = sign }

  at_row : (c : ℕ) → c < m.width → c ≢ t → E s c ≡ M s t *ℤ M s c
  at_row c lc d = entry_after m s t at s c at.row_in lc ∙ entry_in_row M s t c d

  at_column : (r : ℕ) → r < height m → r ≢ s → E r t ≡ neg_ℤ (M s t *ℤ M r t)
  at_column r lr d = entry_after m s t at r t lr at.column_in ∙ entry_elsewhere M s t r t d ∙ pivoted_at M s t r

  elsewhere : (r c : ℕ) → r < height m → c < m.width → r ≢ s → c ≢ t → E r c ≡ reduced M s t r c
  elsewhere r c lr lc d e = entry_after m s t at r c lr lc ∙ entry_elsewhere M s t r c d ∙ pivoted_apart M s t r c e

  row_after : (r : ℕ) → r < height m → r < height n
  row_after r l = let heights = same_height m s t at in omega arith

  row_before : (r : ℕ) → r < height n → r < height m
  row_before r l = let heights = same_height m s t at in omega arith

  not_both : (b : Bool) → b ≡ true → not b ≡ true → ⊥
  not_both true e f = cc
  not_both false e f = cc

  -- a column of the other side is not the column of the pivot, and a row of the other side is not its row
  column_apart : (c : ℕ) → IsColumnOn m (opposite T) c → c ≢ t
  column_apart c far e = not_both (T (Column t)) inner.0.1 (ap (λ (x : ℕ). not (T (Column x))) (sym e) ∙ far.1)

  row_apart : (r : ℕ) → IsRowOn m (opposite T) r → r ≢ s
  row_apart r far e = not_both (T (Row s)) start.on.1 (ap (λ (x : ℕ). not (T (Row x))) (sym e) ∙ far.1)

  inner_row_apart : (r : ℕ) → IsInnerRow m T r → r ≢ s
  inner_row_apart r is e = is.1 (subst (λ (x : ℕ). IsEndRow m T x) (sym e) start)

  end_column_apart : (c : ℕ) → IsEndColumn m T c → c ≢ t
  end_column_apart c end e = inner.1 (subst (λ (x : ℕ). IsEndColumn m T x) e end)

  -- an inner line is 0 in the lines of the other side
  row_zero : (r x : ℕ) → IsInnerRow m T r → IsColumnOn m (opposite T) x → M r x ≡ pos 0
  row_zero r x is far = elim (zero_or_sign (M r x) (small r x)) [ inl z ↦ z | inr u ↦ absurd (is.1 (record { on = is.0; across = x; far = far; nonzero = sign_nonzero (M r x) u })) ]

  column_zero : (x c : ℕ) → IsInnerColumn m T c → IsRowOn m (opposite T) x → M x c ≡ pos 0
  column_zero x c is far = elim (zero_or_sign (M x c) (small x c)) [ inl z ↦ z | inr u ↦ absurd (is.1 (record { on = is.0; across = x; far = far; nonzero = sign_nonzero (M x c) u })) ]

  -- ---- ends and inner lines after the pivot

  -- the row of the pivot is an end
  start_after : IsEndRow n T s
  start_after = record {
    on = (row_after s start.on.0, start.on.1);
    across = start.across;
    far = start.far;
    nonzero = λ e. sign_nonzero (M s t *ℤ M s start.across) (sign-mul (M s t) (M s start.across) sign (sign_of_entry (M s start.across) (small s start.across) start.nonzero))
        (sym (at_row start.across start.far.0 (column_apart start.across start.far)) ∙ e);
  }

  -- an inner row with a nonzero in the column of the pivot becomes an end
  becomes_end : (r : ℕ) → IsInnerRow m T r → M r t ≢ pos 0 → IsEndRow n T r
  becomes_end r is nonzero = record {
    on = (row_after r is.0.0, is.0.1);
    across = start.across;
    far = start.far;
    nonzero = λ e. zero_less (M r start.across) (M s t *ℤ (M r t *ℤ M s start.across)) step (row_zero r start.across is start.far)
        (sym (elsewhere r start.across is.0.0 start.far.0 (inner_row_apart r is) (column_apart start.across start.far)) ∙ e);
  }
    where
      step : IsSign (M s t *ℤ (M r t *ℤ M s start.across))
      step = sign-mul (M s t) (M r t *ℤ M s start.across) sign
          (sign-mul (M r t) (M s start.across) (sign_of_entry (M r t) (small r t) nonzero) (sign_of_entry (M s start.across) (small s start.across) start.nonzero))

  -- another inner row stays an inner row, with the same entries
  same_entry : (r c : ℕ) → IsInnerRow m T r → M r t ≡ pos 0 → c < m.width → E r c ≡ M r c
  same_entry r c is z lc = go (same_or_not c t)
    where
      go : (c ≡ t) ⊎ (c ≢ t) → E r c ≡ M r c
      go (inl e) = subst (λ (x : ℕ). E r x ≡ M r x) (sym e) (at_column r is.0.0 (inner_row_apart r is) ∙ negative_zero (M s t) (M r t) z ∙ sym z)
      go (inr d) = elsewhere r c is.0.0 lc (inner_row_apart r is) d ∙ unchanged_first (M r c) (M s t) (M r t) (M s c) z

  inner_row_after : (r : ℕ) → IsInnerRow m T r → M r t ≡ pos 0 → IsInnerRow n T r
  inner_row_after r is z = (
    (row_after r is.0.0, is.0.1),
    λ end. end.nonzero (same_entry r end.across is z end.far.0 ∙ row_zero r end.across is end.far),
  )

  -- the columns of the side have the same entries in the rows of the other side
  across_same : (x c : ℕ) → IsRowOn m (opposite T) x → c < m.width → E x c ≡ M x c
  across_same x c far lc = go (same_or_not c t)
    where
      z : M x t ≡ pos 0
      z = column_zero x t inner far

      go : (c ≡ t) ⊎ (c ≢ t) → E x c ≡ M x c
      go (inl e) = subst (λ (y : ℕ). E x y ≡ M x y) (sym e) (at_column x far.0 (row_apart x far) ∙ negative_zero (M s t) (M x t) z ∙ sym z)
      go (inr d) = elsewhere x c far.0 lc (row_apart x far) d ∙ unchanged_first (M x c) (M s t) (M x t) (M s c) z

  end_column_after : (c : ℕ) → IsEndColumn m T c → IsEndColumn n T c
  end_column_after c end = record {
    on = end.on;
    across = end.across;
    far = (row_after end.across end.far.0, end.far.1);
    nonzero = λ e. end.nonzero (sym (across_same end.across c end.far end.on.0) ∙ e);
  }

  inner_column_after : (c : ℕ) → IsInnerColumn m T c → IsInnerColumn n T c
  inner_column_after c is = (
    is.0,
    λ end.
        let far : IsRowOn m (opposite T) end.across = (row_before end.across end.far.0, end.far.1) in
        end.nonzero (across_same end.across c far is.0.0 ∙ column_zero end.across c is far),
  )

  -- ---- the rest of the path

  -- an inner row on a walk with fewer rows has a zero in the column of the pivot, which would shorten the path
  no_chord : (r d k : ℕ) → suc k < place.n → IsInnerRow m T r → M r d ≢ pos 0 → HasWalk m T k d → M r t ≡ pos 0
  no_chord r d k l is nonzero walk = elim (zero_or_sign (M r t) (small r t)) [
    | inl z ↦ z
    | inr u ↦ absurd (place.shortest (suc k) s t (record { end = start; inner = inner; nonzero = place.edge.nonzero; walk = (inner, r, d, is, sign_nonzero (M r t) u, nonzero, walk) }) l)
  ]

  walk_after : (k c : ℕ) → k < place.n → HasWalk m T k c → HasWalk n T k c
  walk_after zero c l walk = end_column_after c walk
  walk_after (suc k) c l (is, r, d, row, here, next, walk) =
      let none = no_chord r d k l row next walk in (
        inner_column_after c is,
        r,
        d,
        inner_row_after r row none,
        λ e. here (sym (same_entry r c row none is.0.0) ∙ e),
        λ e. next (sym (same_entry r d row none (column_in k d walk)) ∙ e),
        walk_after k d (omega arith) walk,
      )
    where
      column_in : (k d : ℕ) → HasWalk m T k d → d < m.width
      column_in zero d end = end.on.0
      column_in (suc k) d walk = walk.0.0.0

  -- after the last inner row the side is fit
  fit_after : (r c : ℕ) → IsInnerRow m T r → M r t ≢ pos 0 → M r c ≢ pos 0 → IsEndColumn m T c → IsFit n T
  fit_after r c row before next end = go (zero_or_sign (M s c) (small s c))
    where
      apart : c ≢ t
      apart = end_column_apart c end

      first : E s c ≡ M s t *ℤ M s c
      first = at_row c end.on.0 apart

      second : E r c ≡ reduced M s t r c
      second = elsewhere r c row.0.0 end.on.0 (inner_row_apart r row) apart

      go : (M s c ≡ pos 0) ⊎ IsSign (M s c) → IsFit n T
      go (inl z) = (
        (s, c, start_after, end_column_after c end, first ∙ times_zero (M s t) (M s c) z),
        (r, c, becomes_end r row before, end_column_after c end, λ e. next (sym (unchanged_second (M r c) (M s t) (M r t) (M s c) z) ∙ sym second ∙ e)),
      )
      go (inr u) = (
        (
          r,
          c,
          becomes_end r row before,
          end_column_after c end,
          second ∙ sign_less (M r c) (M s t *ℤ (M r t *ℤ M s c)) (sign_of_entry (M r c) (small r c) next)
              (sign-mul (M s t) (M r t *ℤ M s c) sign (sign-mul (M r t) (M s c) (sign_of_entry (M r t) (small r t) before) u)) (subst IsEntry second (ternary r c)),
        ),
        (s, c, start_after, end_column_after c end, λ e. sign_nonzero (M s t *ℤ M s c) (sign-mul (M s t) (M s c) sign u) (sym first ∙ e)),
      )

  -- after an inner row before the last there is a path from this row
  edge_after : (k r c : ℕ) → suc k < place.n → IsInnerRow m T r → M r t ≢ pos 0 → M r c ≢ pos 0 → HasWalk m T (suc k) c → IsFirstEdge n T (suc k) r c
  edge_after k r c l row before next walk = record {
    end = becomes_end r row before;
    inner = inner_column_after c walk.0;
    nonzero = λ e. next (sym (unchanged_second (M r c) (M s t) (M r t) (M s c) zero_first) ∙ sym (elsewhere r c row.0.0 walk.0.0.0 (inner_row_apart r row) apart) ∙ e);
    walk = walk_after (suc k) c l walk;
  }
    where
      -- a nonzero there would be the first edge of a shorter path
      zero_first : M s c ≡ pos 0
      zero_first = elim (zero_or_sign (M s c) (small s c)) [
        | inl z ↦ z
        | inr u ↦ absurd (place.shortest (suc k) s c (record { end = start; inner = walk.0; nonzero = sign_nonzero (M s c) u; walk = walk }) l)
      ]

      apart : c ≢ t
      apart e = sign_nonzero (M s t) sign (ap (λ (x : ℕ). M s x) (sym e) ∙ zero_first)

  shorter : (k : ℕ) → k ≡ place.n → HasWalk m T k t → HasShorterPath n T k
  shorter zero e end = inner.1 end
  shorter (suc zero) e (is, r, d, row, before, next, end) = fit_after r d row before next end
  shorter (suc (suc k)) e (is, r, d, row, before, next, walk) = (r, d, edge_after k r d (omega arith) row before next walk)

pub pivots_shorten_paths : PivotsShortenPaths
pivots_shorten_paths m T s t small place ternary = shorter m T s t small place ternary place.n refl place.edge.walk
