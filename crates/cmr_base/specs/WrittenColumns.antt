-- Matrices after one column was written.
use Rattle.std.specs.Prelude.{◌≡◌, ◌≢◌, ◌<◌, ◌≤◌, ◌⊎◌, ℕ, ℤ, pos, List, slice_index_or}
use Rattle.cmr_base.specs.Matrix.{Matrix, height, entry, IsMatrix}

-- the column has these entries in the first `count` rows, and no other entry is changed
pub record IsColumnWritten (old new : Matrix) (column : ℕ) (entries : List ℤ) (count : ℕ) : Type 0 where
  pub is_matrix : IsMatrix new
  pub height_same : height new ≡ height old
  pub width_same : new.width ≡ old.width
  pub written : (row : ℕ) → row < count → entry new row column ≡ slice_index_or entries row (pos 0)
  pub others : (i j : ℕ) → (j ≢ column) ⊎ (count ≤ i) → entry new i j ≡ entry old i j
