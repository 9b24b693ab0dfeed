-- The answers for a set of rows.
use Rattle.std.specs.Prelude.{◌≡◌, ◌↔◌, ℕ, ℤ, List, map, length}
use Rattle.cmr_base.specs.Matrix.{Matrix}
use Rattle.cmr_base.specs.Members.{IsIn, IsDistinct}
use Rattle.cmr_base.specs.Signing.{IsSigning}
use Rattle.ghouila.specs.declared.by_pivots.Pivot.{Pivot}
use Rattle.ghouila.specs.Answer.{IsViolatorAmong}
use Rattle.ghouila.specs.SignRuns.{SignsBySteps, ViolatesBySteps}
use Rattle.sign_tool.specs.declared.signing.SetSigning.{SetSigning}
use Rattle.sign_tool.specs.declared.signing.SetSigning.TheVariants.{Signed, Violated}

abbrev pub IsSigned : SetSigning → Type 0
IsSigned (Signed signs steps) = Unit {0}
IsSigned (Violated lines) = ⊥

-- the answer is right: a signing of these rows, or a violator whose rows are among them
abbrev pub SignsSetOrViolates : Matrix → List ℕ → SetSigning → Type 0
SignsSetOrViolates m rows (Signed signs steps) = IsSigning m rows signs
SignsSetOrViolates m rows (Violated lines) = IsViolatorAmong m rows lines.rows lines.columns

-- the run on these rows ends with this answer
abbrev pub IsEndOfRun : Matrix → List ℕ → SetSigning → Type 0
IsEndOfRun m rows (Signed signs steps) = (sign : ℕ → ℤ) × (signs ≡ map sign rows) × SignsBySteps m rows steps sign
IsEndOfRun m rows (Violated lines) = (steps : List Pivot) × ViolatesBySteps m rows steps lines.rows lines.columns

-- exactly one step names each of these rows, and no step names another row
pub record NamesEachOnce (steps : List Pivot) (rows : List ℕ) : Type 0 where
  pub distinct : IsDistinct (map (λ step. step.row) steps)
  pub members : (row : ℕ) → IsIn row (map (λ step. step.row) steps) ↔ IsIn row rows
  pub as_many : length steps ≡ length rows

abbrev pub HasStepForEachRow : List ℕ → SetSigning → Type 0
HasStepForEachRow rows (Signed signs steps) = NamesEachOnce steps rows
HasStepForEachRow rows (Violated lines) = Unit {0}
