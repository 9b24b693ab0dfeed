-- The connected parts of a matrix.
use Rattle.std.specs.Prelude.{◌≡◌, ◌≢◌, ◌<◌, ◌+◌, ℕ, ℤ, pos, true, List, [], ◌∷◌, length, slice_index_or, Contains}
use Rattle.cmr_base.specs.declared.line.Line.{Line}
use Rattle.cmr_base.specs.declared.line_set.LineSet.{LineSet}
use Rattle.cmr_base.specs.Matrix.{Matrix, height, entry}
use Rattle.cmr_base.specs.LineSets.{IsRowSet, IsColumnSet}
use Rattle.cmr_base.specs.Reductions.{HasLine}
use Rattle.cmr_base.specs.Separations.{Lines, listed, zeros}
use Rattle.cmr_base.specs.Seeds.{IsLine, IsClosed}

-- a line of the matrix
abbrev pub IsLineOf : Matrix → Line → Type 0
IsLineOf m x = IsLine (height m) m.width x

-- no nonzero is in a line of the set and a line outside
abbrev pub IsApart : ℕ → ℕ → (ℕ → ℕ → ℤ) → Lines → Type 0
IsApart m n M lines = IsClosed m n M zeros zeros lines

abbrev pub HasSome : ℕ → ℕ → Lines → Type 0
HasSome m n lines = (line : Line) × IsLine m n line × (lines line ≡ true)

-- a minimal nonempty set that is apart from the other lines
pub record IsComponent (m n : ℕ) (M : ℕ → ℕ → ℤ) (lines : Lines) : Type 0 where
  pub apart : IsApart m n M lines
  pub some : HasSome m n lines
  pub least : (other : Lines) → IsApart m n M other → HasSome m n other → ((line : Line) → IsLine m n line → other line ≡ true → lines line ≡ true)
      → (line : Line) → IsLine m n line → lines line ≡ true → other line ≡ true

abbrev pub no_lines : LineSet
no_lines = record { rows = []; columns = [] }

abbrev pub part_at : List LineSet → ℕ → LineSet
part_at parts a = slice_index_or parts a no_lines

-- the number of the first row of a set of lines, or, if the set has no row, m plus the number of its first column
abbrev pub first_number : ℕ → LineSet → ℕ
first_number m lines = first_of lines.rows lines.columns
  where
    first_of : List ℕ → List ℕ → ℕ
    first_of (row ∷ rows) columns = row
    first_of [] (column ∷ columns) = m + column
    first_of [] [] = m

-- the connected parts in the order of their first lines; each line is in exactly one part
pub record AreComponents (m : Matrix) (parts : List LineSet) : Type 0 where
  pub row_sets : (a : ℕ) → a < length parts → IsRowSet m (part_at parts a).rows
  pub column_sets : (a : ℕ) → a < length parts → IsColumnSet m (part_at parts a).columns
  pub components : (a : ℕ) → a < length parts → IsComponent (height m) m.width (entry m) (listed (part_at parts a).rows (part_at parts a).columns)
  pub all : (line : Line) → IsLine (height m) m.width line → (a : ℕ) × (a < length parts) × HasLine (part_at parts a).rows (part_at parts a).columns line
  pub once : (a b : ℕ) (line : Line) → a < length parts → b < length parts → HasLine (part_at parts a).rows (part_at parts a).columns line
      → HasLine (part_at parts b).rows (part_at parts b).columns line → a ≡ b
  pub ordered : (a b : ℕ) → a < b → b < length parts → first_number (height m) (part_at parts a) < first_number (height m) (part_at parts b)

-- sets of lines that cover the given rows and columns; the lines of two different sets cross in zeros
pub record ArePartsOf (M : ℕ → ℕ → ℤ) (rows columns : List ℕ) (parts : List LineSet) : Type 0 where
  pub rows_within : (a : ℕ) → a < length parts → (r : ℕ) → Contains (part_at parts a).rows r → Contains rows r
  pub columns_within : (a : ℕ) → a < length parts → (c : ℕ) → Contains (part_at parts a).columns c → Contains columns c
  pub rows_all : (r : ℕ) → Contains rows r → (a : ℕ) × (a < length parts) × Contains (part_at parts a).rows r
  pub columns_all : (c : ℕ) → Contains columns c → (a : ℕ) × (a < length parts) × Contains (part_at parts a).columns c
  pub zero : (a b r c : ℕ) → a < length parts → b < length parts → a ≢ b → Contains (part_at parts a).rows r → Contains (part_at parts b).columns c → M r c ≡ pos 0
