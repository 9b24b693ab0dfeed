-- The cycle fault contains no smaller violator.
use Rattle.std.specs.Prelude.{◌≡◌, ℕ, List, length}
use Rattle.cmr_base.specs.Matrix.{Matrix, entry, IsTernary}
use Rattle.cmr_base.specs.CyclePlaces.{IsCycleFault}
use Rattle.cmr_base.specs.Determinants.{determinant}
use Rattle.determinant_two.specs.DeterminantTwo.{IsTwo}
use Rattle.determinant_two.specs.MinimalViolators.{IsMinimalViolator}

abbrev pub CycleFaultsAreMinimalViolators : Type 0
CycleFaultsAreMinimalViolators = (m : Matrix) (rows columns : List ℕ) → IsTernary m → IsCycleFault m rows columns → IsMinimalViolator m rows columns

-- a cycle fault is square and has determinant 2 or -2
abbrev pub CycleFaultsHaveDeterminantTwo : Type 0
CycleFaultsHaveDeterminantTwo = (m : Matrix) (rows columns : List ℕ) → IsTernary m → IsCycleFault m rows columns
    → (length rows ≡ length columns) × IsTwo (determinant (entry m) rows columns)
