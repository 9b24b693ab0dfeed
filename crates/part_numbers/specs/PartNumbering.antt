-- Parts by a number for each line.
use Rattle.std.specs.Prelude.{◌≡◌, ◌≢◌, ◌<◌, ◌==◌, ℕ, ℤ, pos, Bool, true, List, filter, map, slice_index_or}
use Rattle.cmr_base.specs.declared.line_set.LineSet.{LineSet}
use Rattle.cmr_base.specs.LineSets.{first_lines}
use Rattle.ghouila.specs.Found.{marked}
use Rattle.sparse_matrix.specs.LineMarks.{is_marked}

abbrev pub part_number : List ℕ → ℕ → ℕ
part_number numbers line = slice_index_or numbers line 0

-- the marked lines with this number
abbrev pub lines_of_part : List Bool → List ℕ → ℕ → List ℕ
lines_of_part marks numbers part = filter (λ line. part_number numbers line == part) (marked marks)

-- the sets of lines of equal numbers
abbrev pub parts_of : List Bool → List Bool → List ℕ → List ℕ → ℕ → List LineSet
parts_of row_marks column_marks of_rows of_columns count =
    map (λ part. record { rows = lines_of_part row_marks of_rows part; columns = lines_of_part column_marks of_columns part }) (first_lines count)

abbrev pub AreBelow : List Bool → List ℕ → ℕ → Type 0
AreBelow marks numbers count = (line : ℕ) → is_marked marks line ≡ true → part_number numbers line < count

-- the nonzeros of a line are at crossing lines with this number
abbrev pub IsInPart : (ℕ → ℤ) → List Bool → List ℕ → ℕ → Type 0
IsInPart f marks numbers part = (line : ℕ) → is_marked marks line ≡ true → f line ≢ pos 0 → part_number numbers line ≡ part

-- the nonzeros of the row, if it is marked, are at marked columns with its number
abbrev pub IsRowTogether : (ℕ → ℕ → ℤ) → List Bool → List Bool → List ℕ → List ℕ → ℕ → Type 0
IsRowTogether M row_marks column_marks of_rows of_columns row = is_marked row_marks row ≡ true → IsInPart (M row) column_marks of_columns (part_number of_rows row)

-- each nonzero of marked lines is in a row and a column of one number
abbrev pub AreRowsTogether : (ℕ → ℕ → ℤ) → List Bool → List Bool → List ℕ → List ℕ → Type 0
AreRowsTogether M row_marks column_marks of_rows of_columns = (row : ℕ) → IsRowTogether M row_marks column_marks of_rows of_columns row

-- the numbers of marked lines are below the count, and no nonzero is in marked lines of two numbers
pub record ArePartsBy (M : ℕ → ℕ → ℤ) (row_marks column_marks : List Bool) (of_rows of_columns : List ℕ) (count : ℕ) : Type 0 where
  pub rows_below : AreBelow row_marks of_rows count
  pub columns_below : AreBelow column_marks of_columns count
  pub together : AreRowsTogether M row_marks column_marks of_rows of_columns
