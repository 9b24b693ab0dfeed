-- The values of the words of tree texts. Lines are counted from 1 in words, and from 0 in values.
use Rattle.std.specs.Prelude.{◌-◌, ◌==◌, nat_le, if◌then◌else◌, ℕ, List, [], ◌∷◌, Option, Some, None, Result, Ok, Err}
use Rattle.cmr_base.specs.declared.line.Line.{Line}
use Rattle.cmr_base.specs.declared.line.Line.TheVariants.{Row, Column}
use Rattle.cmr_base.specs.declared.line_set.LineSet.{LineSet}
use Rattle.tree_type.specs.Sides.{is_among}
use Rattle.text_fields.specs.Limits as limits
pub use Rattle.text_fields.specs.LineNumbers.{last_number}
use Rattle.text_fields.specs.Result.{◌>>=◌, renamed}
use Rattle.tree_text.specs.declared.error.TreeKind.{TreeKind}
use Rattle.tree_text.specs.declared.error.TreeKind.TheVariants.{NotNumber, NotRising, NotPart}
use Rattle.tree_text.specs.declared.value.Sizes.{Sizes}
use Rattle.tree_text.specs.Faults.{tree_kind}

-- a count up to a limit
abbrev pub limited : ℕ → List ℕ → Result ℕ TreeKind
limited most word = renamed tree_kind (limits.limited most word)

-- the number of a line, from 1 to a limit
abbrev pub line_in : ℕ → List ℕ → Result ℕ TreeKind
line_in most word = do
  n ← renamed tree_kind (limits.line_in most word)
  Ok (n - 1)

-- the line must be one of these lines; at the root all lines of the matrix are allowed
abbrev pub among : Option (List ℕ) → ℕ → Result ℕ TreeKind
among None line = Ok line
among (Some lines) line = if is_among lines line then Ok line else Err NotPart

-- a line of the node
abbrev pub line_of : ℕ → List ℕ → List ℕ → Result ℕ TreeKind
line_of most lines word = do
  line ← line_in most word
  among (Some lines) line

-- the next line of an increasing list
abbrev pub next_line : ℕ → Option (List ℕ) → ℕ → List ℕ → Result ℕ TreeKind
next_line most whole before word = do
  line ← line_in most word
  if nat_le before line then among whole line else Err NotRising

-- r with the number of a row of the node, or c with the number of a column
abbrev pub step_in : Sizes → LineSet → List ℕ → Result Line TreeKind
step_in sizes lines [] = Err NotNumber
step_in sizes lines (letter ∷ number) =
    if letter == 114 then (line_of sizes.rows lines.rows number >>= λ row. Ok (Row row))
    else (if letter == 99 then (line_of sizes.columns lines.columns number >>= λ column. Ok (Column column))
    else Err NotNumber)
