-- Matrices that differ in one entry.
use Rattle.std.specs.Prelude.{◌≡◌, ◌==◌, ◌&&◌, if◌then◌else◌, ℕ, ℤ, length}
use Rattle.cmr_base.specs.Matrix.{is_nonzero}
use Rattle.sparse_matrix.specs.SparseRows.{SparseRows, sparse_entry, with_nonzero}

-- with one more nonzero at the end of a row, or the same matrix for the value 0
abbrev pub with_value : SparseRows → ℕ → ℕ → ℤ → SparseRows
with_value m row column value = if is_nonzero value then with_nonzero m row (record { line = column; value = value }) else m

-- the next matrix has the value at this position, and otherwise the entries of the matrix
pub record HasNewEntry (at_row at_column : ℕ) (value : ℤ) (m next : SparseRows) : Type 0 where
  pub rows : length next.runs ≡ length m.runs
  pub width : next.width ≡ m.width
  pub entries : (row column : ℕ) → sparse_entry next row column ≡ (if (at_row == row) && (at_column == column) then value else sparse_entry m row column)
