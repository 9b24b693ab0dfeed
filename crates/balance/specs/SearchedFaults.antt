-- The answers of a search for the least balance fault.
use Rattle.std.specs.Prelude.{◌≡◌, ◌<◌, ◌≤◌, ℕ, List}
use Rattle.cmr_base.specs.Matrix.{Matrix}
use Rattle.cmr_base.specs.LineSets.{IsRowSet, set_number}
use Rattle.leaf_enumerate.specs.Searched.{shorter_side}
use Rattle.leaf_enumerate.specs.declared.search.LeastSubmatrix.{LeastSubmatrix}
use Rattle.leaf_enumerate.specs.declared.search.LeastSubmatrix.TheVariants.{Clean, Found, TooMany}
use Rattle.balance.specs.BalanceFaults.{IsBalanced, HasNoFaultColumns, IsLeastFault}

-- no row set with a smaller number makes a fault with some columns
abbrev pub HasNoFaultBelow : Matrix → ℕ → Type 0
HasNoFaultBelow m number = (others : List ℕ) → IsRowSet m others → set_number others < number → HasNoFaultColumns m others

-- too many lines if and only if the shorter side is above the budget; otherwise the matrix is balanced, or this is the least fault
abbrev pub HasSearchedFaults : Matrix → ℕ → LeastSubmatrix → Type 0
HasSearchedFaults m budget Clean = (shorter_side m ≤ budget) × IsBalanced m
HasSearchedFaults m budget (Found lines) = (shorter_side m ≤ budget) × IsLeastFault m lines.rows lines.columns
HasSearchedFaults m budget (TooMany shorter) = (budget < shorter) × (shorter ≡ shorter_side m)
