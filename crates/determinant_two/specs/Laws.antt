-- Gomory's theorem, and the laws of minimal violators.
use Rattle.std.specs.Prelude.{◌≡◌, ◌↔◌, ℕ, List, length}
use Rattle.cmr_base.specs.Matrix.{Matrix, entry, IsTernary}
use Rattle.cmr_base.specs.LineSets.{IsRowSet, IsColumnSet}
use Rattle.cmr_base.specs.Signing.{IsTotallyUnimodular}
use Rattle.cmr_base.specs.Violator.{IsViolator, IsLeastViolator}
use Rattle.cmr_base.specs.Determinants.{determinant}
use Rattle.determinant_two.specs.DeterminantTwo.{IsTwo, HasDeterminantTwo, HasNoDeterminantTwo}
use Rattle.determinant_two.specs.MinimalViolators.{IsViolatorOn, IsMinimalViolator}

abbrev pub ViolatorsHaveDeterminantTwo : Type 0
ViolatorsHaveDeterminantTwo = (m : Matrix) (rows columns : List ℕ) → IsTernary m → IsRowSet m rows → IsColumnSet m columns → IsViolator (entry m) rows columns
    → HasDeterminantTwo m rows columns

-- a matrix is totally unimodular if and only if no square submatrix has determinant 2 or -2
abbrev pub GomoryEquivalence : Type 0
GomoryEquivalence = (m : Matrix) → IsTernary m → IsTotallyUnimodular m ↔ HasNoDeterminantTwo m

abbrev pub ViolatorsContainMinimalViolators : Type 0
ViolatorsContainMinimalViolators = (m : Matrix) (rows columns : List ℕ) → IsTernary m → IsRowSet m rows → IsColumnSet m columns → IsViolator (entry m) rows columns
    → (part_rows : List ℕ) × (part_columns : List ℕ) × IsViolatorOn m rows columns part_rows part_columns × IsMinimalViolator m part_rows part_columns

abbrev pub LeastViolatorsAreMinimal : Type 0
LeastViolatorsAreMinimal = (m : Matrix) (rows columns : List ℕ) → IsLeastViolator m rows columns → IsMinimalViolator m rows columns

abbrev pub MinimalViolatorsAreSquare : Type 0
MinimalViolatorsAreSquare = (m : Matrix) (rows columns : List ℕ) → IsTernary m → IsMinimalViolator m rows columns → length rows ≡ length columns

abbrev pub MinimalViolatorsHaveDeterminantTwo : Type 0
MinimalViolatorsHaveDeterminantTwo = (m : Matrix) (rows columns : List ℕ) → IsTernary m → IsMinimalViolator m rows columns → IsTwo (determinant (entry m) rows columns)
