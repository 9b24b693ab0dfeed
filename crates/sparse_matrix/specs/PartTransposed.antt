-- A matrix that is transposed up to a row.
use Rattle.std.specs.Prelude.{◌≡◌, ◌<◌, ℕ, pos, List, length}
use Rattle.sparse_matrix.specs.declared.nonzero.Nonzero.{Nonzero}
use Rattle.sparse_matrix.specs.SparseRows.{SparseRows, value_in, sparse_entry}

-- The rows of t are the columns of m, with the rows of m below `row` and, of that row, this run.
pub record IsTransposedTo (m : SparseRows) (row : ℕ) (run : List Nonzero) (t : SparseRows) : Type 0 where
  pub rows : length t.runs ≡ m.width
  pub columns : t.width ≡ length m.runs
  pub before : (column other : ℕ) → other < row → sparse_entry t column other ≡ sparse_entry m other column
  pub here : (column : ℕ) → sparse_entry t column row ≡ value_in run column
  pub after : (column other : ℕ) → row < other → sparse_entry t column other ≡ pos 0
