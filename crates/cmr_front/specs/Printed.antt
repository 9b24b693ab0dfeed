-- Printed and written texts of lines and of steps.
use Rattle.std.specs.Prelude.{◌+◌, ◌++◌, ℕ, ℤ, List, [], ◌∷◌, codes}
use Rattle.std.specs.Fmt.{decimal, signed_decimal}
use Rattle.cmr_base.specs.declared.line.Reason.{Reason}
use Rattle.cmr_base.specs.declared.line.Reason.TheVariants.{Zero, Unit as One, Copy, Negative}
use Rattle.cmr_base.specs.declared.line.Step.{Step}
use Rattle.text_fields.specs.LineNumbers.{line_name}

-- numbers of lines, counted from 1, each after a space
abbrev pub line_numbers : List ℕ → List ℕ
line_numbers [] = []
line_numbers (line ∷ lines) = codes " " ++ decimal (line + 1) ++ line_numbers lines

-- a printed set of lines
abbrev pub line_set_text : List ℕ → List ℕ → List ℕ
line_set_text rows columns = codes "rows" ++ line_numbers rows ++ codes " columns" ++ line_numbers columns

-- the line on a violator, and the line on open lines
abbrev pub violator_line : List ℕ → List ℕ → ℤ → List ℕ
violator_line rows columns sum = codes "violator " ++ line_set_text rows columns ++ codes " sum " ++ signed_decimal sum ++ codes "\n"

abbrev pub open_line : List ℕ → List ℕ → List ℕ
open_line rows columns = codes "open " ++ line_set_text rows columns ++ codes "\n"

-- a reason, and the line that it names
abbrev pub reason_words : Reason → List ℕ
reason_words Zero = codes "zero"
reason_words (One line) = codes "unit " ++ line_name line
reason_words (Copy line) = codes "copy " ++ line_name line
reason_words (Negative line) = codes "negative " ++ line_name line

-- a line for each step: the line that is removed, and the reason
abbrev pub steps_text : List Step → List ℕ
steps_text [] = []
steps_text (step ∷ steps) = line_name step.line ++ codes " " ++ reason_words step.reason ++ codes "\n" ++ steps_text steps
