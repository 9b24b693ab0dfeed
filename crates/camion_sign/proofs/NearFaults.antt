-- Columns that share an earlier row have no fault in a row that agrees with all rows before it.
use Rattle.std.proofs.Common.{ℕ, ℤ, pos, negsuc, Bool, true, false, ◌||◌, List, [], ◌∷◌, length, ◌≡◌, ◌≢◌, ◌<◌, ◌≤◌, ◌+◌, ◌+ℤ◌, ◌⊎◌, inl, inr, ◌∙◌, sym, arith, subst}
use Rattle.std.proofs.lemmas.Bool.{cases_lt}
use Rattle.cmr_base.specs.CyclePlaces.{IsNotAfter, IsFaultAt}
use Rattle.cmr_base.specs.Matrix.{Matrix, entry, IsMatrix}
use Rattle.cmr_base.specs.Signing.{IsSign}
use Rattle.cmr_base.specs.Sums.{IsTwoModFour}
use Rattle.cmr_base.proofs.Integers.{sums}
use Rattle.ghouila.proofs.SignedSums.{zero_or_sign}
use Rattle.cmr_base.specs.ColumnSets.{has_column}
use Rattle.cmr_base.specs.Trees.{support}
use Rattle.cmr_base.proofs.Booleans.{nonzero_is, not_both, or_is, true_is}
use Rattle.camion_sign.specs.FaultLines.{HasNoFaultAt}
use Rattle.camion_sign.specs.NearColumns.{AllShareEarlier, AreWaiting, KnowsNear, ShareEarlier}
use Rattle.camion_sign.specs.declared.near_columns.NearColumns.{NearColumns}
use Rattle.camion_sign.specs.RowSigns.{AgreesBefore, AgreeInSigns}
use Rattle.camion_sign.proofs.Steps.{path_touches, row_zero}

-- ---- one more row, or one more column

pub row_agrees : (m : Matrix) (t other : ℕ) → ((r : ℕ) → r < other → AgreeInSigns m r t) → AgreeInSigns m other t → (r : ℕ) → r < other + 1 → AgreeInSigns m r t
row_agrees m t other before here r l = elim (cases_lt r other) [
  | inl low ↦ before r low
  | inr high ↦ let is : other ≡ r = omega arith in subst (λ (x : ℕ). AgreeInSigns m x t) is here
]

-- fewer columns are later columns
pub knows_later : (m : Matrix) (t from later : ℕ) (near : NearColumns) → from ≤ later → KnowsNear m t from near → KnowsNear m t later near
knows_later m t from later near up k = record { room = k.room; agrees = k.agrees; waits = λ d r l. k.waits d r (omega (arith, up, l)) }

-- ---- the sum of four entries

opposite : (x a : ℤ) → IsSign x → IsSign a → x ≢ a → x +ℤ a ≡ pos 0
opposite x a (inl e) (inl f) n = absurd (n (e ∙ sym f))
opposite x a (inr e) (inr f) n = absurd (n (e ∙ sym f))
opposite x a (inl e) (inr f) n = omega (arith, sums)
opposite x a (inr e) (inl f) n = omega (arith, sums)

double : (a b : ℤ) → IsSign a → IsSign b → (k : ℤ) × ((a +ℤ b) +ℤ (a +ℤ b) ≡ (k +ℤ k) +ℤ (k +ℤ k))
double a b (inl e) (inl f) = (pos 1, omega (arith, sums))
double a b (inl e) (inr f) = (pos 0, omega (arith, sums))
double a b (inr e) (inl f) = (pos 0, omega (arith, sums))
double a b (inr e) (inr f) = (negsuc 0, omega (arith, sums))

not_two : (a b x y : ℤ) → IsSign a → IsSign b → IsSign x → IsSign y → ((x ≡ a) × (y ≡ b)) ⊎ ((x ≢ a) × (y ≢ b)) → IsTwoModFour ((a +ℤ (b +ℤ pos 0)) +ℤ ((x +ℤ (y +ℤ pos 0)) +ℤ pos 0)) → ⊥
not_two a b x y u v w z (inl (p, q)) (l, j) = let d = double a b u v in let e = d.1 in omega (arith, sums)
not_two a b x y u v w z (inr (p, q)) (l, j) = let e = opposite x a w u p in let f = opposite y b z v q in omega (arith, sums)

module _ (m : Matrix) (t c : ℕ) (is : IsMatrix m) where
  unit : (i j : ℕ) → entry m i j ≢ pos 0 → IsSign (entry m i j)
  unit i j h = elim (zero_or_sign (entry m i j) (is.small i j)) [ inl z ↦ absurd (h z) | inr u ↦ u ]

  agree_two : (r d : ℕ) → AgreeInSigns m r t → entry m t c ≢ pos 0 → entry m t d ≢ pos 0 → entry m r c ≢ pos 0 → entry m r d ≢ pos 0
      → ((entry m r c ≡ entry m t c) × (entry m r d ≡ entry m t d)) ⊎ ((entry m r c ≢ entry m t c) × (entry m r d ≢ entry m t d))
  agree_two r d (inl same) a b x y = inl (same c x a, same d y b)
  agree_two r d (inr other) a b x y = inr (other c x a, other d y b)

  -- the only path has one row
  near_fault : (d r : ℕ) → AgreesBefore m t → (path : List ℕ) → IsFaultAt (entry m) t c d path → (length path < 1) ⊎ ((length path ≡ 1) × IsNotAfter path (r ∷ [])) → ⊥
  near_fault d r agrees [] f s = f.place.is_path
  near_fault d r agrees (q ∷ []) f s =
      let p = f.place.is_path in
      not_two (entry m t c) (entry m t d) (entry m q c) (entry m q d) (unit t c f.place.first) (unit t d f.place.last) (unit q c p.1) (unit q d p.2)
      (agree_two q d (agrees q p.0) f.place.first f.place.last p.1 p.2) f.two_mod_four
  near_fault d r agrees (q ∷ j ∷ rest) f (inl l) = omega arith
  near_fault d r agrees (q ∷ j ∷ rest) f (inr e) = let l = e.0 in omega arith

  pub none_near : (columns : ℕ → Bool) → AgreesBefore m t → AreWaiting m t (c + 1) columns → AllShareEarlier m t c columns → (y : ℕ) → HasNoFaultAt m t c y
  none_near columns agrees waits near y path f =
      let touch = path_touches m t c y path f.place.is_path in
      let shared = near y (waits y touch.0 (let l = f.place.order in omega arith) f.place.last touch.1 touch.2) in
      near_fault y shared.0 agrees path f (f.place.least (shared.0 ∷ []) (shared.1, shared.2, shared.3))

-- ---- sets of columns

-- the columns of another row share it
pub shares_more : (m : Matrix) (t c r : ℕ) (old new words : List ℕ) → r < t → entry m r c ≢ pos 0 → ((x : ℕ) → has_column words x ≡ support m r x)
    → ((x : ℕ) → has_column new x ≡ (has_column old x || has_column words x)) → ((d : ℕ) → has_column old d ≡ true → ShareEarlier m t c d) → (d : ℕ) → has_column new d ≡ true → ShareEarlier m t c d
shares_more m t c r old new words early from are added before d h = elim (or_is (has_column old d) (has_column words d) (sym (added d) ∙ h)) [
  | inl o ↦ before d o
  | inr w ↦ (r, early, from, nonzero_is (entry m r d) (sym (are d) ∙ w))
]

-- a column is in a set if an earlier row meets it
abbrev pub IsIfTouched : Matrix → ℕ → (ℕ → Bool) → ℕ → Type 0
IsIfTouched m t columns d = (r : ℕ) → r < t → entry m r d ≢ pos 0 → columns d ≡ true

-- all columns of the row have been visited
pub all_waiting : (m rows : Matrix) (t from : ℕ) (columns : ℕ → Bool) → rows ≡ m → ((d : ℕ) → from ≤ d → support rows t d ≡ false)
    → ((d : ℕ) → d < from → entry m t d ≢ pos 0 → IsIfTouched m t columns d) → AreWaiting m t 0 columns
all_waiting m rows t from columns same zeros added d r low one early touches = elim (cases_lt d from) [
  | inl before ↦ added d before one r early touches
  | inr after ↦ absurd (one (row_zero m rows t d same (zeros d after)))
]

-- a column is no longer waiting
pub waits_after : (m : Matrix) (t c : ℕ) (old new : List ℕ) → AreWaiting m t c (has_column old)
    → ((x : ℕ) → has_column new x ≡ false → (x ≡ c) ⊎ (has_column old x ≡ false)) → AreWaiting m t (c + 1) (has_column new)
waits_after m t c old new waits only d r l n early touches = true_is (has_column new d) (λ f. elim (only d f) [
  | inl e ↦ omega arith
  | inr o ↦ not_both (has_column old d) (waits d r (omega arith) n early touches) o
])
