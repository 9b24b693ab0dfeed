-- Camion's bad submatrices: even row and column sums, and a sum of 2 modulo 4.
use Rattle.std.specs.Prelude.{◌<◌, ◌≤◌, ℕ, ℤ, List}
use Rattle.std.specs.List.{AllByRecursion}
use Rattle.cmr_base.specs.Matrix.{Matrix, height, entry}
use Rattle.cmr_base.specs.LineSets.{IsRowSet, IsColumnSet, set_number}
use Rattle.cmr_base.specs.Sums.{sum_over, IsEven, IsTwoModFour}

-- The entries may be any integers, because a pivot step may make an entry 2. The numbers of rows and of columns may differ.
pub record IsViolator (M : ℕ → ℕ → ℤ) (rows columns : List ℕ) : Type 0 where
  pub even_rows : AllByRecursion (λ row. IsEven (sum_over columns (λ column. M row column))) rows
  pub even_columns : AllByRecursion (λ column. IsEven (sum_over rows (λ row. M row column))) columns
  pub two_mod_four : IsTwoModFour (sum_over rows (λ row. sum_over columns (λ column. M row column)))

-- no submatrix is a violator
abbrev pub HasNoViolator : Matrix → Type 0
HasNoViolator m = (rows columns : List ℕ) → IsRowSet m rows → IsColumnSet m columns → ¬ (IsViolator (entry m) rows columns)

-- no column set makes a violator with these rows
abbrev pub HasNoColumnSet : Matrix → List ℕ → Type 0
HasNoColumnSet m rows = (columns : List ℕ) → IsColumnSet m columns → ¬ (IsViolator (entry m) rows columns)

-- the column set of least number that makes a violator with these rows
pub record IsLeastColumnSet (m : Matrix) (rows columns : List ℕ) : Type 0 where
  pub column_set : IsColumnSet m columns
  pub violator : IsViolator (entry m) rows columns
  pub least : (others : List ℕ) → IsColumnSet m others → IsViolator (entry m) rows others → set_number columns ≤ set_number others

-- the row set of least number that makes a violator with these columns
pub record IsLeastRowSet (m : Matrix) (rows columns : List ℕ) : Type 0 where
  pub row_set : IsRowSet m rows
  pub violator : IsViolator (entry m) rows columns
  pub least : (others : List ℕ) → IsRowSet m others → IsViolator (entry m) others columns → set_number rows ≤ set_number others

-- the violator with the least row set, and among these the violator with the least column set
pub record IsLeastByRows (m : Matrix) (rows columns : List ℕ) : Type 0 where
  pub row_set : IsRowSet m rows
  pub columns_least : IsLeastColumnSet m rows columns
  pub rows_least : (others columns' : List ℕ) → IsRowSet m others → IsColumnSet m columns' → IsViolator (entry m) others columns' → set_number rows ≤ set_number others

-- the violator with the least column set, and among these the violator with the least row set
pub record IsLeastByColumns (m : Matrix) (rows columns : List ℕ) : Type 0 where
  pub column_set : IsColumnSet m columns
  pub rows_least : IsLeastRowSet m rows columns
  pub columns_least : (rows' others : List ℕ) → IsRowSet m rows' → IsColumnSet m others → IsViolator (entry m) rows' others → set_number columns ≤ set_number others

-- the least violator: by rows if there are at most as many rows as columns, by columns otherwise
pub record IsLeastViolator (m : Matrix) (rows columns : List ℕ) : Type 0 where
  pub few_rows : height m ≤ m.width → IsLeastByRows m rows columns
  pub few_columns : m.width < height m → IsLeastByColumns m rows columns
