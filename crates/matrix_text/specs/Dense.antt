-- Dense texts: the sizes, and then the entries row by row.
use Rattle.std.specs.Prelude.{◌≡◌, ◌≤◌, ◌*◌, ℕ, ℤ, Bool, List, ◌∷◌, length, Result, Ok}
use Rattle.cmr_base.specs.declared.limits.TheConstants.{MAX_COLUMNS, MAX_ROWS}
use Rattle.cmr_base.specs.Matrix.{Matrix, rows_of}
use Rattle.text_fields.specs.TextWords.{Text}
use Rattle.text_fields.specs.Result.{◌>>=◌}
use Rattle.text_fields.specs.Numbers.{count_in}
use Rattle.text_fields.specs.Spelling.{Spell}
use Rattle.text_fields.specs.Reading.{Fault, field, fields, ended}
use Rattle.matrix_text.specs.declared.error.TextKind.{TextKind}
use Rattle.matrix_text.specs.declared.error.TextKind.TheVariants.{Short, Extra, TooManyRows, TooManyColumns}
use Rattle.matrix_text.specs.Values.{limited, entry_in}

-- these words are a dense text of the matrix: two counts within limits, and then the entries row by row
pub record IsDenseWithin (most_rows most_columns : ℕ) (binary : Bool) (words : List (List ℕ)) (m : Matrix) : Type 0 where
  pub height : ℕ
  pub width : ℕ
  pub cells : List ℤ
  pub height_word : List ℕ
  pub width_word : List ℕ
  pub entry_words : List (List ℕ)
  pub words_are : words ≡ height_word ∷ width_word ∷ entry_words
  pub height_is : count_in height_word ≡ Ok height
  pub width_is : count_in width_word ≡ Ok width
  pub height_in : height ≤ most_rows
  pub width_in : width ≤ most_columns
  pub entries_are : Spell (entry_in binary) entry_words cells
  pub count : length cells ≡ height * width
  pub matrix : m ≡ record { rows = rows_of height width cells; width = width }

module _ (most_rows most_columns : ℕ) (binary : Bool) where
  -- reading: the matrix that a dense text represents, or its first fault
  abbrev pub dense_within : Text → Result Matrix (Fault TextKind)
  dense_within text = do
    height ← field Short (limited most_rows TooManyRows) text
    width ← field Short (limited most_columns TooManyColumns) height.1
    cells ← fields Short (entry_in binary) (height.0 * width.0) width.1
    ended Extra (record { rows = rows_of height.0 width.0 cells.0; width = width.0 }) cells.1

-- the same within the limits of `Matrix`
module _ (binary : Bool) where
  abbrev pub IsDense : List (List ℕ) → Matrix → Type 0
  IsDense words m = IsDenseWithin MAX_ROWS MAX_COLUMNS binary words m

  abbrev pub dense : Text → Result Matrix (Fault TextKind)
  dense text = dense_within MAX_ROWS MAX_COLUMNS binary text
