-- Sets of rows and of columns, and the submatrix on them.
use Rattle.std.specs.Prelude.{◌<◌, ◌+◌, ◌^◌, ◌/◌, ◌%◌, ◌==◌, if◌then◌else◌, not, filter, ℕ, zero, suc, ℤ, List, [], ◌∷◌, length, map, slice_index}
use Rattle.std.specs.List.{range_with_len}
use Rattle.std.specs.List.Sorted.{IsStrictlyIncreasing}
use Rattle.cmr_base.specs.Matrix.{Matrix, height, entry}
use Rattle.cmr_base.specs.Sums.{sum_over}

-- a set of rows: their increasing numbers
pub record IsRowSet (m : Matrix) (rows : List ℕ) : Type 0 where
  pub increasing : IsStrictlyIncreasing rows
  pub in_range : (k : ℕ) → k < length rows → slice_index rows k < height m

-- a set of columns: their increasing numbers
pub record IsColumnSet (m : Matrix) (columns : List ℕ) : Type 0 where
  pub increasing : IsStrictlyIncreasing columns
  pub in_range : (k : ℕ) → k < length columns → slice_index columns k < m.width

-- the number of a set, which orders sets: line k, counted from 0, adds 2^k
abbrev pub set_number : List ℕ → ℕ
set_number [] = 0
set_number (line ∷ lines) = 2 ^ line + set_number lines

-- the submatrix on rows and columns, in their order
abbrev pub submatrix : Matrix → List ℕ → List ℕ → Matrix
submatrix m rows columns = record { rows = map (λ row. map (entry m row) columns) rows; width = length columns }

-- each below the bound
abbrev pub AllBelow : ℕ → List ℕ → Type 0
AllBelow bound lines = (k : ℕ) → k < length lines → slice_index lines k < bound

-- the lines 0 to `count` - 1
abbrev pub first_lines : ℕ → List ℕ
first_lines count = range_with_len 0 count

-- the set without a line
abbrev pub without : List ℕ → ℕ → List ℕ
without lines omitted = filter (λ line. not (line == omitted)) lines

-- the set with this number, of `count` lines from `first` on; here line `first` adds 1 to the number
abbrev pub set_numbered : ℕ → ℕ → ℕ → List ℕ
set_numbered zero first number = []
set_numbered (suc count) first number =
    if number % 2 == 1 then first ∷ set_numbered count (first + 1) (number / 2) else set_numbered count (first + 1) (number / 2)

-- the sum of the entries of a submatrix
abbrev pub submatrix_sum : Matrix → List ℕ → List ℕ → ℤ
submatrix_sum m rows columns = sum_over rows (λ row. sum_over columns (λ column. entry m row column))
