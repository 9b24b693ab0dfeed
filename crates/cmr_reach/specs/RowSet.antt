-- The set of rows that a submatrix text of a matrix names. Its columns have no effect.
use Rattle.std.specs.Prelude.{ℕ, List, Result}
use Rattle.cmr_base.specs.declared.line_set.LineSet.{LineSet}
use Rattle.cmr_base.specs.Matrix.{Matrix, height}
use Rattle.text_fields.specs.Reading.{Fault}
use Rattle.text_fields.specs.TextWords.{text_of}
use Rattle.matrix_text.specs.declared.error.TextKind.{TextKind}
use Rattle.matrix_text.specs.Submatrix.{named_lines}

-- the lines that the text names, or its first fault
abbrev pub set_of_text : Matrix → List ℕ → Result LineSet (Fault TextKind)
set_of_text m bytes = named_lines (height m) m.width (text_of bytes)
