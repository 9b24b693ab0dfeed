-- A matrix as a list of rows, all of one width.
use Rattle.std.specs.Prelude.{◌≡◌, ◌<◌, ◌≤◌, ◌+◌, ◌≤ℤ◌, ℕ, zero, suc, ℤ, pos, negsuc, Bool, true, false, List, [], ◌∷◌, length, take, drop, count_by, map, slice_index_or, slice_set}
use Rattle.std.specs.List.{range_with_len}
use Rattle.cmr_base.specs.declared.limits.TheConstants.{MAX_COLUMNS, MAX_ROWS}

-- the rows, and their length: a matrix without rows also has a width
pub record Matrix : Type 0 where
  pub rows : List (List ℤ)
  pub width : ℕ

abbrev pub height : Matrix → ℕ
height m = length m.rows

-- a row, counted from 0
abbrev pub row_of : Matrix → ℕ → List ℤ
row_of m row = slice_index_or m.rows row []

-- the entry in a row and a column, counted from 0
abbrev pub entry : Matrix → ℕ → ℕ → ℤ
entry m row column = slice_index_or (row_of m row) column (pos 0)

-- a column, counted from 0
abbrev pub column_of : Matrix → ℕ → List ℤ
column_of m column = map (λ row. slice_index_or row column (pos 0)) m.rows

-- the columns as rows
abbrev pub transposed : Matrix → Matrix
transposed m = record { rows = map (column_of m) (range_with_len 0 m.width); width = height m }

-- the matrix after a change of one entry
abbrev pub with_entry : Matrix → ℕ → ℕ → ℤ → Matrix
with_entry m row column value = record { rows = slice_set m.rows row (slice_set (row_of m row) column value); width = m.width }

-- -1, 0 or 1
pub record IsEntry (z : ℤ) : Type 0 where
  pub low : negsuc 0 ≤ℤ z
  pub high : z ≤ℤ pos 1

-- the length of each row is the width of the matrix
abbrev pub IsRectangular : Matrix → Type 0
IsRectangular m = (row : ℕ) → row < height m → length (row_of m row) ≡ m.width

-- each entry is -1, 0 or 1
abbrev pub HasTernaryEntries : Matrix → Type 0
HasTernaryEntries m = (row column : ℕ) → IsEntry (entry m row column)

-- a matrix with entries -1, 0 and 1, of any size
pub record IsTernary (m : Matrix) : Type 0 where
  pub rectangular : IsRectangular m
  pub small : HasTernaryEntries m

-- a matrix within the limits: the invariant of the type `Matrix`
pub record IsMatrix (m : Matrix) : Type 0 where
  pub rectangular : IsRectangular m
  pub small : HasTernaryEntries m
  pub height_in : height m ≤ MAX_ROWS
  pub width_in : m.width ≤ MAX_COLUMNS

abbrev pub is_nonzero : ℤ → Bool
is_nonzero (pos zero) = false
is_nonzero (pos (suc n)) = true
is_nonzero (negsuc n) = true

-- the number of nonzeros
abbrev pub nonzeros_of : List (List ℤ) → ℕ
nonzeros_of [] = 0
nonzeros_of (row ∷ rows) = count_by is_nonzero row + nonzeros_of rows

-- the n rows of cells that are listed row by row
abbrev pub rows_of : ℕ → ℕ → List ℤ → List (List ℤ)
rows_of zero width cells = []
rows_of (suc n) width cells = take width cells ∷ rows_of n width (drop width cells)
