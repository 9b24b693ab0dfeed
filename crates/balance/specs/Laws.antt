-- Balanced matrices and violators.
use Rattle.std.specs.Prelude.{ℕ, List}
use Rattle.cmr_base.specs.Matrix.{Matrix, entry, IsTernary}
use Rattle.cmr_base.specs.CyclePlaces.{IsCycleFault}
use Rattle.cmr_base.specs.Violator.{HasNoViolator}
use Rattle.balance.specs.BalanceFaults.{IsBalanceFault, IsBalanced}

-- a matrix without violators is balanced
abbrev pub FreeIsBalanced : Type 0
FreeIsBalanced = (m : Matrix) → IsTernary m → HasNoViolator m → IsBalanced m

-- the cycle fault is a balance fault
abbrev pub CycleFaultsAreBalanceFaults : Type 0
CycleFaultsAreBalanceFaults = (m : Matrix) → IsTernary m → (rows columns : List ℕ) → IsCycleFault m rows columns → IsBalanceFault (entry m) rows columns
