-- The connected parts of the core of a matrix.
use Rattle.std.specs.Prelude.{◌≡◌, ◌≢◌, ◌<◌, ℕ, ℤ, pos, Bool, true, List, length, slice_index_or, Contains}
use Rattle.std.specs.List.{AllByRecursion}
use Rattle.std.specs.List.Sorted.{IsStrictlyIncreasing}
use Rattle.cmr_base.specs.declared.line.Step.{Step}
use Rattle.cmr_base.specs.declared.line_set.LineSet.{LineSet}
use Rattle.cmr_base.specs.Matrix.{Matrix, height, entry}
use Rattle.cmr_base.specs.LineSets.{first_lines}
use Rattle.cmr_base.specs.Components.{ArePartsOf, part_at}
use Rattle.sparse_matrix.specs.LineMarks.{is_marked}
use Rattle.sparse_matrix.specs.SparseRows.{SparseRows, matrix_of_runs}
use Rattle.sparse_core.specs.TwoCores.{IsTwoCore, IsThinRemoval}
use Rattle.core_parts.specs.declared.sets.CoreParts.{CoreParts}
use Rattle.part_numbers.specs.ConnectedParts.{IsConnectedPart, first_line}

-- The core: what remains when zero and unit lines are removed, one after another. It is the greatest set in which each line has two nonzeros.
pub record IsCoreOf (m : Matrix) (rows columns : List ℕ) : Type 0 where
  pub rows_increase : IsStrictlyIncreasing rows
  pub columns_increase : IsStrictlyIncreasing columns
  pub greatest : IsTwoCore (entry m) rows columns
  pub steps : List Step
  pub removal : IsThinRemoval (entry m) (first_lines (height m)) (first_lines m.width) steps rows columns

-- the connected parts of the core in the order of their first rows
pub record AreCoreParts (m : Matrix) (parts : List LineSet) : Type 0 where
  pub core_rows : List ℕ
  pub core_columns : List ℕ
  pub core : IsCoreOf m core_rows core_columns
  pub cover : ArePartsOf (entry m) core_rows core_columns parts
  pub connected : (a : ℕ) → a < length parts → IsConnectedPart (entry m) core_rows core_columns (part_at parts a).rows (part_at parts a).columns
  pub ordered : (a b : ℕ) → a < b → b < length parts → first_line (part_at parts a).rows < first_line (part_at parts b).rows

-- ---- places of columns in their parts

-- the line is at this place of the list
pub record IsAtPlace (lines : List ℕ) (line place : ℕ) : Type 0 where
  pub inside : place < length lines
  pub there : slice_index_or lines place 0 ≡ line

abbrev pub place_at : List ℕ → ℕ → ℕ
place_at places line = slice_index_or places line 0

-- the columns of the part are marked, and a nonzero in a row of the part and a marked column is in a column of the part, at its place
pub record HasColumnsAtPlaces (M : ℕ → ℕ → ℤ) (marks : List Bool) (places : List ℕ) (lines : LineSet) : Type 0 where
  pub mark : (column : ℕ) → Contains lines.columns column → is_marked marks column ≡ true
  pub place : (row column : ℕ) → Contains lines.rows row → is_marked marks column ≡ true → M row column ≢ pos 0 → IsAtPlace lines.columns column (place_at places column)

-- the connected parts of the core, with the marks and the places of columns
pub record AreDivided (m : SparseRows) (divided : CoreParts) : Type 0 where
  pub columns : length divided.columns.items ≡ m.width
  pub places : length divided.places.items ≡ m.width
  pub parts : AreCoreParts (matrix_of_runs m) divided.sets.items
  pub placed : AllByRecursion (HasColumnsAtPlaces (entry (matrix_of_runs m)) divided.columns.items divided.places.items) divided.sets.items
