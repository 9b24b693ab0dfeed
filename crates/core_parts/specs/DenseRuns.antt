-- Rows of a matrix that get the values of a run.
use Rattle.std.specs.Prelude.{◌≡◌, ◌≢◌, ℕ, List}
use Rattle.cmr_base.specs.Matrix.{Matrix, height, entry}
use Rattle.sparse_matrix.specs.declared.nonzero.Nonzero.{Nonzero}
use Rattle.sparse_matrix.specs.SparseRows.{value_in}

-- one row has the values of the run, and the others have what they had before
pub record HasValues (before : Matrix) (row : ℕ) (run : List Nonzero) (after : Matrix) : Type 0 where
  pub rows : height after ≡ height before
  pub width : after.width ≡ before.width
  pub here : (column : ℕ) → entry after row column ≡ value_in run column
  pub others : (other column : ℕ) → other ≢ row → entry after other column ≡ entry before other column
