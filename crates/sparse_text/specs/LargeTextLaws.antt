-- Texts that are read as matrices and as large matrices.
use Rattle.std.specs.Prelude.{◌≡◌, ◌≢◌, ℕ, Result, Err}
use Rattle.cmr_base.specs.Matrix.{Matrix}
use Rattle.text_fields.specs.Reading.{Fault}
use Rattle.text_fields.specs.TextWords.{Text}
use Rattle.matrix_text.specs.declared.error.TextKind.{TextKind}
use Rattle.matrix_text.specs.declared.error.TextKind.TheVariants.{TooManyRows, TooManyColumns}

-- the first fault, if there is one, is not a size above a limit
abbrev pub IsWithinLimits : Result Matrix (Fault TextKind) → Type 0
IsWithinLimits read = (place : ℕ) → (read ≢ Err (TooManyRows, place)) × (read ≢ Err (TooManyColumns, place))

-- a text within the limits of `Matrix` has one reading: its matrix, or its first fault
abbrev pub HaveOneReading : (Text → Result Matrix (Fault TextKind)) → (Text → Result Matrix (Fault TextKind)) → Type 0
HaveOneReading read read_large = (text : Text) → IsWithinLimits (read text) → read_large text ≡ read text
