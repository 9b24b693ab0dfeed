-- Rows as sets of columns, and sums modulo 4 in two planes of bits.
use Rattle.std.specs.Prelude.{◌≡◌, ℕ, ℤ, pos, ◌+ℤ◌, List, map, bit_and, bit_xor}
use Rattle.std.specs.Int.{bit_at}
use Rattle.cmr_base.specs.Matrix.{Matrix, row_of, entry, is_nonzero}
use Rattle.cmr_base.specs.Planes.{bits_of, is_minus}
use Rattle.cmr_base.specs.Sums.{sum_over}

-- the columns in which a row is nonzero
abbrev pub support_of : Matrix → ℕ → ℕ
support_of m row = bits_of is_nonzero (row_of m row)

-- the columns in which a row is -1
abbrev pub minus_of : Matrix → ℕ → ℕ
minus_of m row = bits_of is_minus (row_of m row)

-- the columns of a set, without the columns that are excluded
abbrev pub without_columns : ℕ → ℕ → ℕ
without_columns excluded number = bit_xor number (bit_and number excluded)

-- two planes of `words` words: the low and the high bits of column sums modulo 4
pub record SumPlanes : Type 0 where
  pub words : ℕ
  pub ones : ℕ
  pub twos : ℕ

-- the planes with one row added
abbrev pub with_added_row : SumPlanes → ℕ → ℕ → SumPlanes
with_added_row p support minus = record { words = p.words; ones = bit_xor p.ones support; twos = bit_xor p.twos (bit_xor (bit_and p.ones support) minus) }

-- the low and the high bit of a sum modulo 4
pub record HasResidue (sum : ℤ) (low high : ℕ) : Type 0 where
  pub fours : ℤ
  pub is : sum ≡ (pos low +ℤ (pos high +ℤ pos high)) +ℤ ((fours +ℤ fours) +ℤ (fours +ℤ fours))

-- two planes are the sums of some rows in each column
pub record AreSums (m : Matrix) (rows : List ℕ) (ones twos : ℕ) : Type 0 where
  pub each : (column : ℕ) → HasResidue (sum_over rows (λ row. entry m row column)) (bit_at ones column) (bit_at twos column)

-- the equations of some rows, without the columns that are excluded
abbrev pub equations_of : Matrix → ℕ → List ℕ → List ℕ
equations_of m excluded rows = map (λ row. without_columns excluded (support_of m row)) rows
