-- Lines in parts.
use Rattle.std.specs.Prelude.{◌≡◌, ◌≢◌, ◌<◌, ℕ, ℤ, pos, Bool, true, List, length, map, slice_index_or, Contains}
use Rattle.cmr_base.specs.declared.line_set.LineSet.{LineSet}
use Rattle.cmr_base.specs.Components.{part_at}
use Rattle.cmr_base.specs.LineSets.{AllBelow}
use Rattle.cmr_base.specs.Matrix.{entry}
use Rattle.sparse_matrix.specs.LineMarks.{is_marked}
use Rattle.sparse_matrix.specs.SparseRows.{SparseRows, matrix_of_runs}
use Rattle.core_parts.specs.CoreParts.{HasColumnsAtPlaces, IsAtPlace, place_at}
use Rattle.part_numbers.specs.PartNumbering.{part_number}
use Rattle.large_evidence.specs.declared.evidence.PartEvidence.{PartEvidence}
use Rattle.large_evidence.specs.declared.numbering.PartPlaces.{PartPlaces}
use Rattle.large_evidence.specs.declared.numbering.Side.{Side}
use Rattle.large_evidence.specs.declared.numbering.Side.TheVariants.{Rows, Columns}

abbrev pub sets_of : List PartEvidence → List LineSet
sets_of parts = map (λ part. part.lines) parts

-- the rows, or the columns
abbrev pub lines_of_side : Side → LineSet → List ℕ
lines_of_side Rows lines = lines.rows
lines_of_side Columns lines = lines.columns

-- the rows, or the columns, of the part with this number
abbrev pub lines_at : Side → List PartEvidence → ℕ → List ℕ
lines_at side parts part = lines_of_side side (part_at (sets_of parts) part)

-- each marked line is in exactly one of the parts, and they have no other lines
pub record AreDividedInto (marks : List Bool) (lines : ℕ → List ℕ) (count : ℕ) : Type 0 where
  pub within : (part line : ℕ) → part < count → Contains (lines part) line → is_marked marks line ≡ true
  pub all : (line : ℕ) → is_marked marks line ≡ true → (part : ℕ) × (part < count) × Contains (lines part) line
  pub once : (part other line : ℕ) → part < count → other < count → Contains (lines part) line → Contains (lines other) line → part ≡ other

-- each marked line is in exactly one part, and each nonzero of marked lines is in a row and a column of one part
pub record AreDividedParts (M : ℕ → ℕ → ℤ) (rows columns : List Bool) (parts : List LineSet) : Type 0 where
  pub rows_divided : AreDividedInto rows (λ part. (part_at parts part).rows) (length parts)
  pub columns_divided : AreDividedInto columns (λ part. (part_at parts part).columns) (length parts)
  pub together : (part other row column : ℕ) → part < length parts → other < length parts → Contains (part_at parts part).rows row → Contains (part_at parts other).columns column
      → M row column ≢ pos 0 → part ≡ other

-- ---- the number of the part of each line, and its place in the part

-- a marked line with this number and this place
pub record IsAtNumber (marks : List Bool) (numbers places : List ℕ) (part place line : ℕ) : Type 0 where
  pub mark : is_marked marks line ≡ true
  pub number : part_number numbers line ≡ part
  pub place_is : place_at places line ≡ place

-- each of these lines is marked, with the number of the part and its place
abbrev pub AreAtNumbers : List Bool → (numbers places : List ℕ) → ℕ → List ℕ → Type 0
AreAtNumbers marks numbers places part lines = (place : ℕ) → place < length lines → IsAtNumber marks numbers places part place (slice_index_or lines place 0)

-- the line is at its place in the part with its number
pub record IsCovered (numbers places : List ℕ) (lines : ℕ → List ℕ) (count line : ℕ) : Type 0 where
  pub below : part_number numbers line < count
  pub there : IsAtPlace (lines (part_number numbers line)) line (place_at places line)

-- the numbers and places of the marked lines
pub record AreTheirPlaces (marks : List Bool) (numbers places : List ℕ) (lines : ℕ → List ℕ) (count : ℕ) : Type 0 where
  pub numbered : (part : ℕ) → part < count → AreAtNumbers marks numbers places part (lines part)
  pub covered : (line : ℕ) → is_marked marks line ≡ true → IsCovered numbers places lines count line

-- a number and a place for each of these lines
pub record HasPlacesFor (count : ℕ) (found : PartPlaces) : Type 0 where
  pub numbers : length found.numbers.items ≡ count
  pub places : length found.places.items ≡ count

-- lines of the matrix, whose columns are at their places
pub record IsPlacedPart (m : SparseRows) (marks : List Bool) (places : List ℕ) (lines : LineSet) : Type 0 where
  pub rows : AllBelow (length m.runs) lines.rows
  pub columns : AllBelow m.width lines.columns
  pub mark_count : length marks ≡ m.width
  pub place_count : length places ≡ m.width
  pub placed : HasColumnsAtPlaces (entry (matrix_of_runs m)) marks places lines
