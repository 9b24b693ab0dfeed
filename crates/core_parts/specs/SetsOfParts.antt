-- Sets of the marked lines of each number.
use Rattle.std.specs.Prelude.{◌≡◌, ◌<◌, ◌≤◌, ℕ, Bool, true, List, length}
use Rattle.cmr_base.specs.declared.line_set.LineSet.{LineSet}
use Rattle.cmr_base.specs.Components.{part_at}
use Rattle.sparse_matrix.specs.declared.nonzero.TheConstants.{MAX_SPARSE_LINES}
use Rattle.sparse_matrix.specs.LineMarks.{is_marked}
use Rattle.sparse_core.specs.declared.removal.TwoCore.{TwoCore}
use Rattle.part_numbers.specs.declared.search.Parts.{Parts}
use Rattle.part_numbers.specs.PartNumbering.{AreBelow, lines_of_part, part_number, parts_of}
use Rattle.core_parts.specs.declared.sets.CoreParts.{CoreParts}
use Rattle.core_parts.specs.CoreParts.{IsAtPlace, place_at}

-- the rows of each set are the marked lines of its number, and its columns are what they were before
pub record HaveRows (before : List LineSet) (marks : List Bool) (numbers : List ℕ) (sets : List LineSet) : Type 0 where
  pub size : length sets ≡ length before
  pub rows : (part : ℕ) → part < length before → (part_at sets part).rows ≡ lines_of_part marks numbers part
  pub columns : (part : ℕ) → (part_at sets part).columns ≡ (part_at before part).columns

-- the same for columns
pub record HaveColumns (before : List LineSet) (marks : List Bool) (numbers : List ℕ) (sets : List LineSet) : Type 0 where
  pub size : length sets ≡ length before
  pub rows : (part : ℕ) → (part_at sets part).rows ≡ (part_at before part).rows
  pub columns : (part : ℕ) → part < length before → (part_at sets part).columns ≡ lines_of_part marks numbers part

-- the place of each marked line among the marked lines of its number
pub record ArePlacesBy (marks : List Bool) (numbers places : List ℕ) : Type 0 where
  pub size : length places ≡ length marks
  pub place : (line : ℕ) → is_marked marks line ≡ true → IsAtPlace (lines_of_part marks numbers (part_number numbers line)) line (place_at places line)

-- numbers of the lines of a core, below their count
pub record AreCounted (core : TwoCore) (parts : Parts) : Type 0 where
  pub rows : length parts.of_rows.items ≡ length core.rows.items
  pub columns : length parts.of_columns.items ≡ length core.columns.items
  pub rows_in : length core.rows.items ≤ MAX_SPARSE_LINES
  pub columns_in : length core.columns.items ≤ MAX_SPARSE_LINES
  pub rows_below : AreBelow core.rows.items parts.of_rows.items parts.count
  pub columns_below : AreBelow core.columns.items parts.of_columns.items parts.count

-- the sets of lines of equal numbers, the marks of columns and their places
pub record AreSetsOf (core : TwoCore) (parts : Parts) (divided : CoreParts) : Type 0 where
  pub sets : divided.sets.items ≡ parts_of core.rows.items core.columns.items parts.of_rows.items parts.of_columns.items parts.count
  pub columns : divided.columns.items ≡ core.columns.items
  pub places : ArePlacesBy core.columns.items parts.of_columns.items divided.places.items
