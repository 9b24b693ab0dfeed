-- Paths that begin at a column, with the column in which they end.
use Rattle.std.specs.Prelude.{ℕ, List, [], ◌∷◌, ℤ, pos, ◌+ℤ◌, ◌≡◌, ◌≢◌, ◌<◌, ◌⊎◌, length}
pub use Rattle.cmr_base.specs.Seeds.{IsBefore as IsLess}

-- shorter, or of one length and before in lexicographic order
abbrev pub IsShortlexBefore : List ℕ → List ℕ → Type 0
IsShortlexBefore xs ys = (length xs < length ys) ⊎ ((length xs ≡ length ys) × IsLess xs ys)

abbrev pub IsUpTo : List ℕ → List ℕ → Type 0
IsUpTo xs ys = IsShortlexBefore xs ys ⊎ (xs ≡ ys)

module _ (M : ℕ → ℕ → ℤ) (t : ℕ) where
  -- a trail may continue through a column only if row t is 0 in it
  abbrev pub GoesOn : ℕ → List ℕ → Type 0
  GoesOn x [] = Unit {0}
  GoesOn x (r ∷ lines) = M t x ≡ pos 0

  -- the lines after a column: rows before t and columns in turn, each joined to the next by a nonzero; the last line is a
  -- column
  abbrev pub IsTrail : ℕ → List ℕ → Type 0
  IsTrail c [] = Unit {0}
  IsTrail c (r ∷ []) = ⊥
  IsTrail c (r ∷ x ∷ lines) = (r < t) × (M r c ≢ pos 0) × (M r x ≢ pos 0) × GoesOn x lines × IsTrail x lines

-- the column in which the trail ends
abbrev pub trail_end : ℕ → List ℕ → ℕ
trail_end c [] = c
trail_end c (r ∷ []) = c
trail_end c (r ∷ x ∷ lines) = trail_end x lines

-- the sum of the entries on the trail
abbrev pub trail_sum : (ℕ → ℕ → ℤ) → ℕ → List ℕ → ℤ
trail_sum M c [] = pos 0
trail_sum M c (r ∷ []) = pos 0
trail_sum M c (r ∷ x ∷ lines) = (M r c +ℤ M r x) +ℤ trail_sum M x lines
