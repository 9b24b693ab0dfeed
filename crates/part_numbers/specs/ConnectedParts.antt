-- Connected parts of a core, and their order.
use Rattle.std.specs.Prelude.{◌≢◌, ◌<◌, ◌↔◌, ℕ, ℤ, pos, Bool, List, slice_index_or, Contains}
use Rattle.std.specs.List.Sorted.{IsStrictlyIncreasing}
use Rattle.ghouila.specs.Found.{marked}
use Rattle.part_numbers.specs.PartNumbering.{lines_of_part}

-- no nonzero of the core is in a line of this set and a line outside
abbrev pub AreApartWithin : (ℕ → ℕ → ℤ) → (core_rows core_columns rows columns : List ℕ) → Type 0
AreApartWithin M core_rows core_columns rows columns =
    (row column : ℕ) → Contains core_rows row → Contains core_columns column → M row column ≢ pos 0 → Contains rows row ↔ Contains columns column

-- a set of lines of the core that is apart from the other lines: it has a row, and is within each such set that has one of its rows
pub record IsConnectedPart (M : ℕ → ℕ → ℤ) (core_rows core_columns rows columns : List ℕ) : Type 0 where
  pub rows_increase : IsStrictlyIncreasing rows
  pub columns_increase : IsStrictlyIncreasing columns
  pub rows_within : (row : ℕ) → Contains rows row → Contains core_rows row
  pub columns_within : (column : ℕ) → Contains columns column → Contains core_columns column
  pub apart : AreApartWithin M core_rows core_columns rows columns
  pub some : (row : ℕ) × Contains rows row
  pub least : (R C : List ℕ) (row : ℕ) → AreApartWithin M core_rows core_columns R C → Contains rows row → Contains R row
      → ((other : ℕ) → Contains rows other → Contains R other) × ((column : ℕ) → Contains columns column → Contains C column)

-- the lines of each number below the count are a connected part of the marked lines
abbrev pub AreConnectedParts : (ℕ → ℕ → ℤ) → (row_marks column_marks : List Bool) (of_rows of_columns : List ℕ) (count : ℕ) → Type 0
AreConnectedParts M row_marks column_marks of_rows of_columns count =
    (part : ℕ) → part < count → IsConnectedPart M (marked row_marks) (marked column_marks) (lines_of_part row_marks of_rows part) (lines_of_part column_marks of_columns part)

-- the first of these lines
abbrev pub first_line : List ℕ → ℕ
first_line lines = slice_index_or lines 0 0

-- the first rows of the parts increase
abbrev pub AreInOrder : (row_marks : List Bool) (of_rows : List ℕ) (count : ℕ) → Type 0
AreInOrder row_marks of_rows count =
    (part later : ℕ) → part < later → later < count → first_line (lines_of_part row_marks of_rows part) < first_line (lines_of_part row_marks of_rows later)
