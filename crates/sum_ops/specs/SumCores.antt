-- The cores of concentrated sums.
use Rattle.std.specs.Prelude.{◌≡◌, ◌<◌, ◌≤◌, ◌+◌, ◌-◌, ◌-ℤ◌, ◌*ℤ◌, ℕ, ℤ, pos}
use Rattle.cmr_base.specs.Matrix.{Matrix, height, entry}
use Rattle.cmr_base.specs.Signing.{IsSign}
use Rattle.cmr_base.specs.MatrixSums.{IsCore}

-- the entries of a core after `row` rows and `column` columns that are 1 or -1
pub record HaveSigns (row column : ℕ) (entries : ℕ → ℕ → ℤ) : Type 0 where
  pub g : IsSign (entries row column)
  pub h : IsSign (entries row (column + 1))
  pub s : IsSign (entries (row + 1) (column + 2))
  pub t : IsSign (entries (row + 2) (column + 2))

-- the determinant of the entries in rows row + 1 and row + 2 and columns column and column + 1
abbrev pub core_determinant_at : Matrix → (row column : ℕ) → ℤ
core_determinant_at m row column = entry m (row + 1) column *ℤ entry m (row + 2) (column + 1) -ℤ entry m (row + 1) (column + 1) *ℤ entry m (row + 2) column

-- the matrix ends with a core with this determinant, and its last column is 0 above the core
pub record IsLastCore (m : Matrix) (determinant : ℤ) : Type 0 where
  pub rows : 3 ≤ height m
  pub columns : 3 ≤ m.width
  pub core : IsCore (height m - 3) (m.width - 3) (entry m)
  pub determinant_is : determinant ≡ core_determinant_at m (height m - 3) (m.width - 3)
  pub above : (r : ℕ) → r < height m - 3 → entry m r (m.width - 1) ≡ pos 0

-- the second matrix begins with the last three rows and columns of the first, and its first row is 0 after three columns
pub record IsFirstCore (first second : Matrix) : Type 0 where
  pub rows : 3 ≤ height second
  pub columns : 3 ≤ second.width
  pub same : (r c : ℕ) → r < 3 → c < 3 → entry second r c ≡ entry first ((height first - 3) + r) ((first.width - 3) + c)
  pub right : (c : ℕ) → 3 ≤ c → c < second.width → entry second 0 c ≡ pos 0
