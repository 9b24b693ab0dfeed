-- The entries of a dense text.
use Rattle.std.specs.Prelude.{◌*◌, ℕ, false, Result, Ok}
use Rattle.cmr_base.specs.Matrix.{Matrix, rows_of}
use Rattle.text_fields.specs.Reading.{Fault, fields}
use Rattle.text_fields.specs.Result.{◌>>=◌}
use Rattle.text_fields.specs.TextWords.{Text}
use Rattle.matrix_text.specs.declared.error.TextKind.{TextKind}
use Rattle.matrix_text.specs.declared.error.TextKind.TheVariants.{Short}
use Rattle.matrix_text.specs.Values.{entry_in}

-- the matrix whose entries the next words are, row by row
abbrev pub matrix_by_entries : ℕ → ℕ → Text → Result (Matrix × Text) (Fault TextKind)
matrix_by_entries height width text = do
  cells ← fields Short (entry_in false) (height * width) text
  Ok (record { rows = rows_of height width cells.0; width = width }, cells.1)
