-- Violators and cores.
use Rattle.std.specs.Prelude.{◌≡◌, ◌↔◌, ℕ, ℤ, List}
use Rattle.std.specs.List.Sorted.{IsStrictlyIncreasing}
use Rattle.cmr_base.specs.declared.line.Step.{Step}
use Rattle.cmr_base.specs.Matrix.{Matrix, height, entry, IsTernary}
use Rattle.cmr_base.specs.LineSets.{first_lines, submatrix}
use Rattle.cmr_base.specs.Violator.{HasNoViolator}
use Rattle.sparse_core.specs.TwoCores.{IsTwoCore, IsThinRemoval}

-- a matrix has no violator if and only if none is in what remains
abbrev pub ThinRemovalsKeepViolators : Type 0
ThinRemovalsKeepViolators = (m : Matrix) (steps : List Step) (rows columns : List ℕ) → IsTernary m
    → IsThinRemoval (entry m) (first_lines (height m)) (first_lines m.width) steps rows columns → HasNoViolator m ↔ HasNoViolator (submatrix m rows columns)

-- two cores are one
abbrev pub CoresAreUnique : Type 0
CoresAreUnique = (M : ℕ → ℕ → ℤ) (rows columns R C : List ℕ) → IsStrictlyIncreasing rows → IsStrictlyIncreasing columns → IsStrictlyIncreasing R → IsStrictlyIncreasing C
    → IsTwoCore M rows columns → IsTwoCore M R C → (rows ≡ R) × (columns ≡ C)
