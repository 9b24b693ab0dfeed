-- The answer of a run on a set of rows is a function of the matrix and the set.
use Rattle.std.specs.Prelude.{◌≡◌, ℕ, List}
use Rattle.cmr_base.specs.Matrix.{Matrix}
use Rattle.sign_tool.specs.declared.signing.SetSigning.{SetSigning}
use Rattle.sign_tool.specs.SetSignings.{SignsSetOrViolates, IsEndOfRun}

-- the matrix and the set determine the steps and the signs, or the lines of the violator
abbrev pub AnswersAreOne : Type 0
AnswersAreOne = (m : Matrix) (rows : List ℕ) (a b : SetSigning) → SignsSetOrViolates m rows a → SignsSetOrViolates m rows b → IsEndOfRun m rows a → IsEndOfRun m rows b → a ≡ b
