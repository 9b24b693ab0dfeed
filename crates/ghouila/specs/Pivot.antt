-- Pivots that remove a row from a matrix.
use Rattle.std.specs.Prelude.{◌≡◌, ◌≢◌, ◌<◌, ◌⊎◌, ℕ, ℤ, pos, ◌+◌, ◌*◌, ◌*ℤ◌, neg_ℤ, true, false, List, length, slice_index}
use Rattle.std.specs.List.{AllByRecursion}
use Rattle.cmr_base.specs.Matrix.{Matrix, height, entry, IsEntry}
use Rattle.cmr_base.specs.PlacedPivots.{reduced, pivoted}
use Rattle.cmr_base.specs.Planes.{has_bit}
use Rattle.cmr_base.specs.Signing.{IsSign}
use Rattle.cmr_base.specs.Sums.{sum_over, IsEven, IsOdd}

-- the row is not in the list
abbrev pub IsOutside : ℕ → List ℕ → Type 0
IsOutside row rows = AllByRecursion (λ other. other ≢ row) rows

-- the first `width` entries are -1, 0 or 1
abbrev pub IsTernaryRow : ℕ → (ℕ → ℤ) → Type 0
IsTernaryRow width f = (column : ℕ) → column < width → IsEntry (f column)

-- a nonzero in a column with an even number of nonzeros: the sum of entries -1, 0 and 1 has the parity of their number
pub record IsPivot (m : Matrix) (rows : List ℕ) (place column : ℕ) : Type 0 where
  pub within : place < length rows
  pub column_in : column < m.width
  pub nonzero : IsSign (entry m (slice_index rows place) column)
  pub even : IsEven (sum_over rows (λ row. entry m row column))

-- the column has no nonzero in the rows, or an odd number of them
abbrev pub HasNoPivot : Matrix → List ℕ → ℕ → Type 0
HasNoPivot m rows column = AllByRecursion (λ row. entry m row column ≡ pos 0) rows ⊎ IsOdd (sum_over rows (λ row. entry m row column))

-- the bits of a word are the columns of a chunk of 64 that have a pivot
pub record ArePivotColumns (m : Matrix) (rows : List ℕ) (chunk word : ℕ) : Type 0 where
  pub pivots : (i : ℕ) → i < 64 → has_bit word i ≡ true → (place : ℕ) × IsPivot m rows place (64 * chunk + i)
  pub others : (i : ℕ) → i < 64 → has_bit word i ≡ false → HasNoPivot m rows (64 * chunk + i)

-- four signs, in two rows and two columns, whose product is -1: they are a violator without other lines
pub record IsSquareViolator (a p q x : ℤ) : Type 0 where
  pub corner : IsSign a
  pub below : IsSign p
  pub beside : IsSign q
  pub across : IsSign x
  pub opposite : x ≡ neg_ℤ (a *ℤ (p *ℤ q))

-- the entries in these two rows and columns are such a violator
pub record HasSquareViolator (m : Matrix) (row column other_row other_column : ℕ) : Type 0 where
  pub row_in : other_row < height m
  pub column_in : other_column < m.width
  pub square : IsSquareViolator (entry m row column) (entry m other_row column) (entry m row other_column) (entry m other_row other_column)

-- a matrix of the same size that differs only in these rows
pub record KeepsRowsElsewhere (before after : Matrix) (rows : List ℕ) : Type 0 where
  pub same_height : height after ≡ height before
  pub same_width : after.width ≡ before.width
  pub others : (i j : ℕ) → IsOutside i rows → entry after i j ≡ entry before i j

-- the pivot is made in each of these rows
abbrev pub PivotsRows : Matrix → Matrix → ℕ → ℕ → List ℕ → Type 0
PivotsRows before after row column rows = AllByRecursion (λ i. (j : ℕ) → j < before.width → entry after i j ≡ pivoted (entry before) row column i j) rows

-- the first column with a pivot, and the first of these rows with a nonzero in it
pub record IsFirstPivot (m : Matrix) (rows : List ℕ) (place column : ℕ) : Type 0 where
  pub pivot : IsPivot m rows place column
  pub first_column : (j : ℕ) → j < column → HasNoPivot m rows j
  pub first_row : (k : ℕ) → k < place → entry m (slice_index rows k) column ≡ pos 0

-- the first entry, by these rows and then by columns, at which the pivot would give a 2 or a -2; it gives none in its own column
pub record IsFirstTwoEntry (m : Matrix) (rows : List ℕ) (row column place last : ℕ) : Type 0 where
  pub within : place < length rows
  pub column_in : last < m.width
  pub two : ¬ (IsEntry (reduced (entry m) row column (slice_index rows place) last))
  pub first_row : (k : ℕ) → k < place → IsTernaryRow m.width (reduced (entry m) row column (slice_index rows k))
  pub first_column : IsTernaryRow last (reduced (entry m) row column (slice_index rows place))
