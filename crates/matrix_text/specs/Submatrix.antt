-- Submatrix texts: the matrix's sizes, a count of rows and a count of columns, and then the rows and the columns.
use Rattle.std.specs.Prelude.{◌≡◌, ◌-◌, ◌+◌, ◌++◌, ℕ, List, [], ◌∷◌, length, map, Result, Ok}
use Rattle.std.specs.List.Sorted.{IsStrictlyIncreasing}
use Rattle.cmr_base.specs.LineSets.{AllBelow}
use Rattle.cmr_base.specs.declared.line_set.LineSet.{LineSet}
use Rattle.text_fields.specs.TextWords.{Text}
use Rattle.text_fields.specs.Result.{◌>>=◌}
pub use Rattle.text_fields.specs.LineNumbers.{last_number}
use Rattle.text_fields.specs.Numbers.{count_in}
use Rattle.text_fields.specs.Spelling.{Spell}
use Rattle.text_fields.specs.Reading.{Fault, field, times, ended}
use Rattle.matrix_text.specs.declared.error.TextKind.{TextKind}
use Rattle.matrix_text.specs.declared.error.TextKind.TheVariants.{Short, Extra, RowOutOfRange, ColumnOutOfRange}
use Rattle.matrix_text.specs.Values.{own_size, limited, increasing_line_in}

-- the numbers of lines, counted from 1
abbrev pub numbers_of : List ℕ → List ℕ
numbers_of lines = map (λ line. line + 1) lines

-- these words are a submatrix text of the lines, in a matrix of these sizes
pub record IsSubmatrix (height width : ℕ) (words : List (List ℕ)) (lines : LineSet) : Type 0 where
  pub height_word : List ℕ
  pub width_word : List ℕ
  pub row_count_word : List ℕ
  pub column_count_word : List ℕ
  pub row_words : List (List ℕ)
  pub column_words : List (List ℕ)
  pub words_are : words ≡ height_word ∷ width_word ∷ row_count_word ∷ column_count_word ∷ (row_words ++ column_words)
  pub height_is : count_in height_word ≡ Ok height
  pub width_is : count_in width_word ≡ Ok width
  pub row_count : count_in row_count_word ≡ Ok (length lines.rows)
  pub column_count : count_in column_count_word ≡ Ok (length lines.columns)
  pub rows_are : Spell count_in row_words (numbers_of lines.rows)
  pub columns_are : Spell count_in column_words (numbers_of lines.columns)
  pub rows_increase : IsStrictlyIncreasing lines.rows
  pub columns_increase : IsStrictlyIncreasing lines.columns
  pub rows_in : AllBelow height lines.rows
  pub columns_in : AllBelow width lines.columns

-- one more line, above the previous line
abbrev pub another_line : ℕ → TextKind → List ℕ → Text → Result (List ℕ × Text) (Fault TextKind)
another_line most outside lines text = do
  number ← field Short (increasing_line_in most outside (last_number lines)) text
  Ok (lines ++ (number.0 - 1) ∷ [], number.1)

-- n increasing lines
abbrev pub increasing_lines : ℕ → TextKind → ℕ → Text → Result (List ℕ × Text) (Fault TextKind)
increasing_lines most outside n text = times (another_line most outside) n [] text

-- reading: the lines that a submatrix text names in a matrix of these sizes, or its first fault
abbrev pub named_lines : ℕ → ℕ → Text → Result LineSet (Fault TextKind)
named_lines height width text = do
  same_height ← field Short (own_size height) text
  same_width ← field Short (own_size width) same_height.1
  row_count ← field Short (limited height RowOutOfRange) same_width.1
  column_count ← field Short (limited width ColumnOutOfRange) row_count.1
  rows ← increasing_lines height RowOutOfRange row_count.0 column_count.1
  columns ← increasing_lines width ColumnOutOfRange column_count.0 rows.1
  ended Extra (record { rows = rows.0; columns = columns.0 }) columns.1
