-- A row of a submatrix after a pivot.
use Rattle.std.specs.Prelude.{◌≡◌, ◌≢◌, ◌<◌, ◌⊎◌, ℕ, List, Contains}
use Rattle.cmr_base.specs.Matrix.{Matrix, height, entry, IsEntry, IsMatrix}
use Rattle.cmr_base.specs.PlacedPivots.{pivot_entry}
use Rattle.cmr_base.specs.declared.position.Position.{Position}

-- the row has the entries of the pivot in these columns, which are -1, 0 and 1, and all other entries are unchanged
pub record IsPivotedRow (m before after : Matrix) (columns : List ℕ) (place : Position) (row : ℕ) : Type 0 where
  pub shape : IsMatrix after
  pub same_height : height after ≡ height before
  pub same_width : after.width ≡ before.width
  pub entries : (j : ℕ) → Contains columns j → entry after row j ≡ pivot_entry (entry m) place.row place.column row j
  pub small : (j : ℕ) → Contains columns j → IsEntry (pivot_entry (entry m) place.row place.column row j)
  pub others : (i j : ℕ) → (i ≢ row) ⊎ (¬ (Contains columns j)) → entry after i j ≡ entry before i j

-- the first of these columns in which the pivot has a 2 or a -2 in the row
pub record IsFirstTwoOfRow (m : Matrix) (columns : List ℕ) (place : Position) (row column : ℕ) : Type 0 where
  pub column_in : Contains columns column
  pub two : ¬ (IsEntry (pivot_entry (entry m) place.row place.column row column))
  pub columns_before : (j : ℕ) → Contains columns j → j < column → IsEntry (pivot_entry (entry m) place.row place.column row j)
