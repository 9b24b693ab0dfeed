-- A matrix in two planes of words: the bits of its nonzeros, and the bits of its entries -1. Each row has the same number of words
-- in a plane.
use Rattle.std.specs.Prelude.{◌≡◌, ◌≤◌, ◌+◌, ◌*◌, ◌/◌, ◌%◌, ℕ, ℤ, pos, negsuc, Bool, true, false, List, map, slice_index_or}
use Rattle.std.specs.List.{flat_map}
use Rattle.cmr_base.specs.declared.limits.TheConstants.{MAX_COLUMNS, MAX_ROWS}
use Rattle.cmr_base.specs.declared.matrix.Matrix.TheInside.{Inside}
use Rattle.cmr_base.specs.LineSets.{first_lines}
use Rattle.cmr_base.specs.Matrix.{Matrix, is_nonzero}
use Rattle.cmr_base.specs.Planes.{has_bit, is_minus, words_for, words_of}

-- whether a plane has the bit of a row and a column
abbrev pub is_in : ℕ → List ℕ → ℕ → ℕ → Bool
is_in words plane row column = has_bit (slice_index_or plane (row * words + column / 64) 0) (column % 64)

-- the entry with these bits
abbrev pub value_of : Bool → Bool → ℤ
value_of false minus = pos 0
value_of true false = pos 1
value_of true true = negsuc 0

abbrev pub plane_entry : ℕ → List ℕ → List ℕ → ℕ → ℕ → ℤ
plane_entry words support minus row column = value_of (is_in words support row column) (is_in words minus row column)

-- the rows of the planes
abbrev pub rows_in : ℕ → ℕ → List ℕ → List ℕ → List (List ℤ)
rows_in rows columns support minus = map (λ row. map (plane_entry (words_for columns) support minus row) (first_lines columns)) (first_lines rows)

abbrev pub matrix_of : Inside → Matrix
matrix_of a = record { rows = rows_in a.rows a.columns a.support.items a.minus.items; width = a.columns }

pub record IsLaidOut (a : Inside) : Type 0 where
  pub rows_few : a.rows ≤ MAX_ROWS
  pub columns_few : a.columns ≤ MAX_COLUMNS
  pub support_is : a.support.items ≡ flat_map (words_of (words_for a.columns) is_nonzero) (matrix_of a).rows
  pub minus_is : a.minus.items ≡ flat_map (words_of (words_for a.columns) is_minus) (matrix_of a).rows
