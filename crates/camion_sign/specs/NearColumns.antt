-- Columns of a row that share an earlier row.
use Rattle.std.specs.Prelude.{◌≡◌, ◌≢◌, ◌<◌, ◌≤◌, ◌+◌, ℕ, Bool, true, pos}
use Rattle.cmr_base.specs.Matrix.{Matrix, entry, IsMatrix}
use Rattle.cmr_base.specs.BitSets.{Bits}
use Rattle.cmr_base.specs.ColumnSets.{has_column}
use Rattle.camion_sign.specs.RowSigns.{AgreesBefore}
use Rattle.camion_sign.specs.declared.near_columns.NearColumns.{NearColumns}

-- a row before t meets both columns
abbrev pub ShareEarlier : Matrix → ℕ → ℕ → ℕ → Type 0
ShareEarlier m t c d = (r : ℕ) × (r < t) × (entry m r c ≢ pos 0) × (entry m r d ≢ pos 0)

-- each of these columns shares an earlier row with column c
abbrev pub AllShareEarlier : Matrix → ℕ → ℕ → (ℕ → Bool) → Type 0
AllShareEarlier m t c columns = (d : ℕ) → columns d ≡ true → ShareEarlier m t c d

-- sets of columns of the matrix
pub record HasNearRoom (m : Matrix) (sets : NearColumns) : Type 0 where
  pub matrix : IsMatrix m
  pub waiting : sets.waiting.size ≡ m.width
  pub near : sets.near.size ≡ m.width

-- the columns from `from` on that row t and an earlier row meet are waiting
abbrev pub AreWaiting : Matrix → ℕ → ℕ → (ℕ → Bool) → Type 0
AreWaiting m t from columns = (d r : ℕ) → from ≤ d → entry m t d ≢ pos 0 → r < t → entry m r d ≢ pos 0 → columns d ≡ true

-- a set that has the columns after c that row t and an earlier row meet
pub record HasWaiting (m : Matrix) (t c : ℕ) (columns : Bits) : Type 0 where
  pub size : columns.size ≡ m.width
  pub waits : AreWaiting m t (c + 1) (has_column columns.words)

-- what is known of row t, with the columns from `from` on as later columns
pub record KnowsNear (m : Matrix) (t from : ℕ) (sets : NearColumns) : Type 0 where
  pub room : HasNearRoom m sets
  pub agrees : sets.agrees ≡ true → AgreesBefore m t
  pub waits : AreWaiting m t from (has_column sets.waiting.words)
