-- Balanced matrices (Truemper): no cycle without chords has a sum of 2 modulo 4.
use Rattle.std.specs.Prelude.{◌≡◌, ◌<◌, ◌≤◌, ℕ, ℤ, List, count_by}
use Rattle.std.specs.List.{AllByRecursion}
use Rattle.cmr_base.specs.Matrix.{Matrix, height, entry, is_nonzero}
use Rattle.cmr_base.specs.LineSets.{IsRowSet, IsColumnSet, set_number}
use Rattle.cmr_base.specs.Sums.{sum_over, IsTwoModFour}

-- the number of these columns with a nonzero in the row, and of these rows with a nonzero in the column
abbrev pub row_nonzeros : (ℕ → ℕ → ℤ) → List ℕ → ℕ → ℕ
row_nonzeros M columns row = count_by (λ column. is_nonzero (M row column)) columns

abbrev pub column_nonzeros : (ℕ → ℕ → ℤ) → List ℕ → ℕ → ℕ
column_nonzeros M rows column = count_by (λ row. is_nonzero (M row column)) rows

-- each line of the submatrix has exactly two nonzeros, and the sum is 2 modulo 4
pub record IsBalanceFault (M : ℕ → ℕ → ℤ) (rows columns : List ℕ) : Type 0 where
  pub two_in_rows : AllByRecursion (λ row. row_nonzeros M columns row ≡ 2) rows
  pub two_in_columns : AllByRecursion (λ column. column_nonzeros M rows column ≡ 2) columns
  pub two_mod_four : IsTwoModFour (sum_over rows (λ row. sum_over columns (λ column. M row column)))

-- no submatrix is a fault
abbrev pub IsBalanced : Matrix → Type 0
IsBalanced m = (rows columns : List ℕ) → IsRowSet m rows → IsColumnSet m columns → ¬ (IsBalanceFault (entry m) rows columns)

-- no column set makes a fault with these rows
abbrev pub HasNoFaultColumns : Matrix → List ℕ → Type 0
HasNoFaultColumns m rows = (columns : List ℕ) → IsColumnSet m columns → ¬ (IsBalanceFault (entry m) rows columns)

-- the column set of least number that makes a fault with these rows
pub record IsLeastFaultColumns (m : Matrix) (rows columns : List ℕ) : Type 0 where
  pub column_set : IsColumnSet m columns
  pub fault : IsBalanceFault (entry m) rows columns
  pub least : (others : List ℕ) → IsColumnSet m others → IsBalanceFault (entry m) rows others → set_number columns ≤ set_number others

-- the row set of least number that makes a fault with these columns
pub record IsLeastFaultRows (m : Matrix) (rows columns : List ℕ) : Type 0 where
  pub row_set : IsRowSet m rows
  pub fault : IsBalanceFault (entry m) rows columns
  pub least : (others : List ℕ) → IsRowSet m others → IsBalanceFault (entry m) others columns → set_number rows ≤ set_number others

-- the fault with the least row set, and among these the one with the least column set
pub record IsLeastFaultByRows (m : Matrix) (rows columns : List ℕ) : Type 0 where
  pub row_set : IsRowSet m rows
  pub columns_least : IsLeastFaultColumns m rows columns
  pub rows_least : (others columns' : List ℕ) → IsRowSet m others → IsColumnSet m columns' → IsBalanceFault (entry m) others columns' → set_number rows ≤ set_number others

-- the fault with the least column set, and among these the one with the least row set
pub record IsLeastFaultByColumns (m : Matrix) (rows columns : List ℕ) : Type 0 where
  pub column_set : IsColumnSet m columns
  pub rows_least : IsLeastFaultRows m rows columns
  pub columns_least : (rows' others : List ℕ) → IsRowSet m rows' → IsColumnSet m others → IsBalanceFault (entry m) rows' others → set_number columns ≤ set_number others

-- the least fault: by rows if the matrix has at most as many rows as columns, otherwise by columns
pub record IsLeastFault (m : Matrix) (rows columns : List ℕ) : Type 0 where
  pub few_rows : height m ≤ m.width → IsLeastFaultByRows m rows columns
  pub few_columns : m.width < height m → IsLeastFaultByColumns m rows columns
