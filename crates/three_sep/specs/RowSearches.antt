-- The search of the concentrated form with a given row in side one.
use Rattle.std.specs.Prelude.{◌≡◌, ℕ}
use Rattle.cmr_base.specs.Matrix.{Matrix}
use Rattle.three_sep.specs.declared.row_search.RowSearch.{RowSearch}

-- the search in a matrix with a row
pub record IsRowSearchOf (m : Matrix) (row : ℕ) (search : RowSearch) : Type 0 where
  pub matrix_is : search.matrix.now ≡ m
  pub row_is : search.row ≡ row
