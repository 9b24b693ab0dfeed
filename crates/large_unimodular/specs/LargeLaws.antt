-- Laws of verdicts on large matrices.
use Rattle.std.specs.Prelude.{◌≡◌, ◌≤◌, ℕ}
use Rattle.cmr_base.specs.declared.limits.TheConstants.{MAX_LINES}
use Rattle.cmr_base.specs.declared.line_set.LineSet.{LineSet}
use Rattle.cmr_base.specs.Matrix.{Matrix, IsTernary}
use Rattle.tree_type.specs.Invariant.{AreLinesOf}
use Rattle.tree_laws.specs.Laws.{IsProved, IsRefuted}
use Rattle.large_unimodular.specs.declared.verdict.LargeVerdict.{LargeVerdict}
use Rattle.large_unimodular.specs.declared.verdict.LargeVerdict.TheVariants.{Yes, No, Open}
use Rattle.large_unimodular.specs.LargeVerdicts.{IsLargeVerdict}

-- yes: the matrix is totally unimodular; no: it is not, and the lines are a violator
abbrev pub LargeMeans : Matrix → LargeVerdict → Type 0
LargeMeans m Yes = IsProved m
LargeMeans m (No fault) = IsRefuted m fault
LargeMeans m (Open lines) = Unit {0}

abbrev pub VerdictsMean : Type 0
VerdictsMean =
    (limit pivots : ℕ) (m : Matrix) (verdict : LargeVerdict) → limit ≤ MAX_LINES → IsTernary m → IsLargeVerdict limit pivots m verdict → LargeMeans m verdict

-- verdicts of one kind: two violators are in one part, and the open parts are equal
abbrev pub AreOfSameKind : LargeVerdict → LargeVerdict → Type 0
AreOfSameKind Yes Yes = Unit {0}
AreOfSameKind (No fault) (No other) = (lines : LineSet) × AreLinesOf fault lines × AreLinesOf other lines
AreOfSameKind (Open lines) (Open others) = lines ≡ others
AreOfSameKind verdict other = ⊥

-- a matrix has verdicts of one kind for a budget and a number of pivots
abbrev pub OneKind : Type 0
OneKind = (limit pivots : ℕ) (m : Matrix) (verdict other : LargeVerdict) → limit ≤ MAX_LINES → IsTernary m → IsLargeVerdict limit pivots m verdict → IsLargeVerdict limit pivots m other
    → AreOfSameKind verdict other
