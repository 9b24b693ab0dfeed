-- The words for lines of a matrix.
use Rattle.std.specs.Prelude.{◌+◌, ◌++◌, ℕ, List, ◌∷◌, codes, fold, length, map}
use Rattle.std.specs.Fmt.{decimal}
use Rattle.cmr_base.specs.declared.line.Line.{Line}
use Rattle.cmr_base.specs.declared.line.Line.TheVariants.{Row, Column}
use Rattle.cmr_base.specs.declared.line_set.LineSet.{LineSet}

-- a line's number, counted from 1
abbrev pub number_of_line : ℕ → List ℕ
number_of_line line = decimal (line + 1)

-- a row or a column by its letter and its number
abbrev pub line_name : Line → List ℕ
line_name (Row row) = codes "r" ++ number_of_line row
line_name (Column column) = codes "c" ++ number_of_line column

-- the number of the last line, counted from 1, or 0 if there is none
abbrev pub last_number : List ℕ → ℕ
last_number lines = fold (λ before line. line + 1) 0 lines

-- the number of rows, the number of columns, the rows, the columns
abbrev pub set_words : LineSet → List (List ℕ)
set_words lines = decimal (length lines.rows) ∷ decimal (length lines.columns) ∷ (map number_of_line lines.rows ++ map number_of_line lines.columns)
