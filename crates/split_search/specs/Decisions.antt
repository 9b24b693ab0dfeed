-- What decides a matrix whose columns have at most two nonzeros.
use Rattle.std.specs.Prelude.{◌≢◌, ◌≤◌, ℕ, ℤ, pos, Bool, List, length, Contains}
use Rattle.cmr_base.specs.Matrix.{Matrix, entry}
use Rattle.cmr_base.specs.LineSets.{IsRowSet, IsColumnSet}
use Rattle.cmr_base.specs.Signing.{IsTotallyUnimodular}
use Rattle.cmr_base.specs.Violator.{IsViolator, HasNoViolator}
use Rattle.sparse_matrix.specs.SparseRows.{SparseRows, run_of, matrix_of_runs}
use Rattle.two_nonzeros.specs.Cancelling.{AreSplitBy}
use Rattle.split_search.specs.declared.split.Split.{Split}
use Rattle.split_search.specs.declared.split.Split.TheVariants.{Minus, Violator}

-- each run has at most two nonzeros
abbrev pub HaveAtMostTwo : SparseRows → Type 0
HaveAtMostTwo t = (column : ℕ) → length (run_of t column) ≤ 2

-- the marks split the rows, so that the matrix is totally unimodular
pub record IsSplitBy (m : SparseRows) (minus : List Bool) : Type 0 where
  pub split : AreSplitBy minus m
  pub unimodular : IsTotallyUnimodular (matrix_of_runs m)
  pub free : HasNoViolator (matrix_of_runs m)

-- each of these rows has a nonzero in these columns, and each of the columns in the rows
pub record HaveNonzeros (M : ℕ → ℕ → ℤ) (rows columns : List ℕ) : Type 0 where
  pub rows_have : (row : ℕ) → Contains rows row → (column : ℕ) × Contains columns column × (M row column ≢ pos 0)
  pub columns_have : (column : ℕ) → Contains columns column → (row : ℕ) × Contains rows row × (M row column ≢ pos 0)

-- rows and columns of a matrix that are a violator, none of them a zero line of it
pub record AreViolating (m : Matrix) (rows columns : List ℕ) : Type 0 where
  pub row_set : IsRowSet m rows
  pub column_set : IsColumnSet m columns
  pub violator : IsViolator (entry m) rows columns
  pub nonzeros : HaveNonzeros (entry m) rows columns

abbrev pub IsDecidedBy : SparseRows → Split → Type 0
IsDecidedBy m (Minus minus) = IsSplitBy m minus.items
IsDecidedBy m (Violator lines) = AreViolating (matrix_of_runs m) lines.rows lines.columns
