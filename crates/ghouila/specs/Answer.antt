-- The answer for a set of rows: a signing, or a violator.
use Rattle.std.specs.Prelude.{◌≡◌, ℕ, ℤ, List, map}
use Rattle.std.specs.List.{All, Contains}
use Rattle.cmr_base.specs.Matrix.{Matrix, entry}
use Rattle.cmr_base.specs.LineSets.{IsRowSet, IsColumnSet}
use Rattle.cmr_base.specs.Signing.{IsSigning}
use Rattle.cmr_base.specs.Violator.{IsViolator}
use Rattle.ghouila.specs.declared.by_pivots.Pivot.{Pivot}
use Rattle.ghouila.specs.declared.by_pivots.SigningOrViolator.{SigningOrViolator}
use Rattle.ghouila.specs.declared.by_pivots.SigningOrViolator.TheVariants.{Signed, Violated}
use Rattle.ghouila.specs.SignRuns.{SignsBySteps, ViolatesBySteps}

-- a violator whose rows are among these
pub record IsViolatorAmong (m : Matrix) (rows violator_rows violator_columns : List ℕ) : Type 0 where
  pub row_set : IsRowSet m violator_rows
  pub column_set : IsColumnSet m violator_columns
  pub among : All (Contains rows) violator_rows
  pub violator : IsViolator (entry m) violator_rows violator_columns

-- the answer is right: a signing of these rows, or a violator whose rows are among them
abbrev pub SignsOrViolates : Matrix → List ℕ → SigningOrViolator → Type 0
SignsOrViolates m rows (Signed signs) = IsSigning m rows signs
SignsOrViolates m rows (Violated lines) = IsViolatorAmong m rows lines.rows lines.columns

-- the run on these rows makes these steps and ends with this answer
abbrev pub IsAnswerOfRun : Matrix → List ℕ → List Pivot → SigningOrViolator → Type 0
IsAnswerOfRun m rows steps (Signed signs) = (sign : ℕ → ℤ) × (signs ≡ map sign rows) × SignsBySteps m rows steps sign
IsAnswerOfRun m rows steps (Violated lines) = ViolatesBySteps m rows steps lines.rows lines.columns
