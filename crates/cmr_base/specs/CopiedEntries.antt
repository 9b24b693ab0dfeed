-- Matrices into which chosen entries of another matrix were copied.
use Rattle.std.specs.Prelude.{◌≡◌, ◌≢◌, ◌<◌, ℕ, pos, List, length, slice_index}
use Rattle.cmr_base.specs.Matrix.{Matrix, height, entry, IsMatrix}

-- the index of each chosen column among the chosen columns, and for each other column a number that is no index
pub record ArePlaces (width : ℕ) (columns places : List ℕ) : Type 0 where
  pub long : length places ≡ width
  pub there : (k : ℕ) → k < length columns → slice_index places (slice_index columns k) ≡ k
  pub back : (column : ℕ) → column < width → slice_index places column < length columns → slice_index columns (slice_index places column) ≡ column

abbrev pub IsEmptyRow : Matrix → ℕ → Type 0
IsEmptyRow m row = (column : ℕ) → entry m row column ≡ pos 0

-- a row has the chosen entries of another matrix's row, and all other rows are unchanged
pub record IsRowCopied (m : Matrix) (row : ℕ) (columns : List ℕ) (to : ℕ) (old new : Matrix) : Type 0 where
  pub is_matrix : IsMatrix new
  pub height_same : height new ≡ height old
  pub width_same : new.width ≡ old.width
  pub copied : (k : ℕ) → k < length columns → entry new to k ≡ entry m row (slice_index columns k)
  pub others : (i j : ℕ) → i ≢ to → entry new i j ≡ entry old i j
