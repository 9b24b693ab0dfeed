-- The columns that can make a fault with a set of rows, and the columns that the search keeps.
use Rattle.std.specs.Prelude.{◌≡◌, ◌<◌, ◌+ℤ◌, ◌↔◌, ℕ, List}
use Rattle.std.specs.List.{AllByRecursion}
use Rattle.std.specs.List.Sorted.{IsStrictlyIncreasing}
use Rattle.cmr_base.specs.Matrix.{Matrix, height, entry, is_nonzero}
use Rattle.cmr_base.specs.LineSets.{IsColumnSet, set_numbered}
use Rattle.cmr_base.specs.Members.{IsIn}
use Rattle.cmr_base.specs.Sums.{sum_over, IsTwoModFour}
use Rattle.balance.specs.BalanceFaults.{column_nonzeros, IsBalanceFault}

-- the column has exactly two nonzeros in these rows
abbrev pub IsCandidate : Matrix → List ℕ → ℕ → Type 0
IsCandidate m rows column = column_nonzeros (entry m) rows column ≡ 2

-- both columns join the same two rows, and they are no fault together
pub record AreAlikeColumns (m : Matrix) (rows : List ℕ) (c d : ℕ) : Type 0 where
  pub same_rows : AllByRecursion (λ row. is_nonzero (entry m row c) ≡ is_nonzero (entry m row d)) rows
  pub no_fault : ¬ (IsTwoModFour (sum_over rows (λ row. entry m row c) +ℤ sum_over rows (λ row. entry m row d)))

-- the least candidate of a class of alike candidates
pub record IsLeastAlike (m : Matrix) (rows : List ℕ) (column : ℕ) : Type 0 where
  pub column_in : column < m.width
  pub candidate : IsCandidate m rows column
  pub least : (other : ℕ) → other < column → IsCandidate m rows other → ¬ (AreAlikeColumns m rows other column)

-- these columns are the least alike candidates
pub record AreKept (m : Matrix) (rows columns : List ℕ) : Type 0 where
  pub column_set : IsColumnSet m columns
  pub members : (column : ℕ) → IsIn column columns ↔ IsLeastAlike m rows column

-- these columns are the least alike candidates below a bound
pub record AreKeptBelow (m : Matrix) (rows : List ℕ) (bound : ℕ) (columns : List ℕ) : Type 0 where
  pub increasing : IsStrictlyIncreasing columns
  pub members : (column : ℕ) → IsIn column columns ↔ ((column < bound) × IsLeastAlike m rows column)

-- the kept columns make a fault with these rows
abbrev pub MakeFault : Matrix → List ℕ → Type 0
MakeFault m rows = (columns : List ℕ) → AreKept m rows columns → IsBalanceFault (entry m) rows columns

-- the kept columns make a fault with the row set of this number
abbrev pub MakeFaultAt : Matrix → ℕ → Type 0
MakeFaultAt m number = MakeFault m (set_numbered (height m) 0 number)
