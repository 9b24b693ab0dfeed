-- A comparison of a matrix, with its rows in some order, with a table of five rows and five columns.
use Rattle.std.specs.Prelude.{◌≡◌, ◌<◌, ◌⊎◌, ◌/◌, ◌%◌, ℕ, List, [], ◌∷◌, slice_index, slice_index_or}
use Rattle.cmr_base.specs.Matrix.{Matrix, entry}
use Rattle.cmr_base.specs.R10.{mark, circulant_table, bordered_table}

abbrev pub IsTable : List (List ℕ) → Type 0
IsTable table = (table ≡ circulant_table) ⊎ (table ≡ bordered_table)

abbrev pub table_at : List (List ℕ) → ℕ → ℕ → ℕ
table_at table row column = slice_index_or (slice_index_or table row []) column 0

-- the matrix's column has the marks of the table's column, with the matrix's rows in this order
abbrev pub IsColumn : Matrix → List (List ℕ) → List ℕ → ℕ → ℕ → Type 0
IsColumn m table rows place column = (k : ℕ) → k < 5 → mark (entry m (slice_index rows k) column) ≡ table_at table k place

abbrev pub HasColumn : Matrix → List (List ℕ) → List ℕ → ℕ → Type 0
HasColumn m table rows place = (column : ℕ) × (column < 5) × IsColumn m table rows place column

-- each column of the table is a column of the matrix
abbrev pub HasTableColumns : Matrix → List (List ℕ) → List ℕ → Type 0
HasTableColumns m table rows = (place : ℕ) → place < 5 → HasColumn m table rows place

-- the five digits of a number in base five
abbrev pub rows_numbered : ℕ → List ℕ
rows_numbered number = (number % 5) ∷ (number / 5 % 5) ∷ (number / 25 % 5) ∷ (number / 125 % 5) ∷ (number / 625 % 5) ∷ []
