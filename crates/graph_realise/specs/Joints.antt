-- A row and the parts of the other rows: their properties, and the tree of all rows.
use Rattle.std.specs.Prelude.{◌≡◌, ◌≢◌, ◌<◌, ◌≤◌, ◌⊎◌, ◌==◌, ◌&&◌, ◌||◌, not, nat_lt, if◌then◌else◌, ℕ, Bool, true, false, List, [], length, slice_index, slice_index_or, Option, Some, None}
use Rattle.cmr_base.specs.declared.limits.TheConstants.{MAX_ROWS}
use Rattle.cmr_base.specs.BitSets.{Bits}
use Rattle.cmr_base.specs.ColumnSets.{has_column}
use Rattle.cmr_base.specs.Cuts.{differ}
use Rattle.cmr_base.specs.LineSets.{AllBelow}
use Rattle.cmr_base.specs.Matrix.{Matrix, height}
use Rattle.cmr_base.specs.Members.{IsIn}
use Rattle.cmr_base.specs.Trees.{support}
pub use Rattle.bridge_split.specs.PartNumbers.{number_at, is_number as is_part}
use Rattle.graph_realise.specs.Branches.{AreBranches, branch_at}
use Rattle.graph_realise.specs.Merging.{Hanging, heavier, spot, merged_lies, reversed_side, reversed_lies}
use Rattle.graph_realise.specs.SideTables.{side_in, end_in, IsArcChanged}
use Rattle.graph_realise.specs.BitTables.{AreChunksOf, Grid, cell}
use Rattle.graph_realise.specs.declared.arc_sides.ArcSides.{ArcSides}
use Rattle.graph_realise.specs.declared.joint.Joint.{Joint}

-- lists of rows
abbrev pub AreInRows : ℕ → List (List ℕ) → Type 0
AreInRows height parts = (a : ℕ) → a < length parts → AllBelow height (slice_index_or parts a [])

abbrev pub part_or_first : Option ℕ → ℕ
part_or_first None = 0
part_or_first (Some part) = part

-- how the parts hang
abbrev pub hanging_of : Joint → Hanging
hanging_of joint = record {
  part = λ row. part_or_first (number_at joint.part_of.items row);
  half = λ part. (branch_at joint.branches.items part).end;
  above = heavier (λ part. (branch_at joint.branches.items part).weight);
  common = λ part. (branch_at joint.branches.items part).common;
  touched = number_at joint.part_with.items;
}

-- rows with the numbers of their lists
pub record AreNumbered (parts : List (List ℕ)) (count : ℕ) (numbers : List (Option ℕ)) : Type 0 where
  pub inside : (a row : ℕ) → a < count → IsIn row (slice_index_or parts a []) → number_at numbers row ≡ Some a
  pub only : (a row : ℕ) → number_at numbers row ≡ Some a → (a < count) × IsIn row (slice_index_or parts a [])

-- the number of a row that is not 0 in the column, unless all are 0
abbrev pub IsPartWith : (ℕ → ℕ → Bool) → List ℕ → List (Option ℕ) → ℕ → Option ℕ → Type 0
IsPartWith M rows numbers column found =
    (((r : ℕ) → IsIn r rows → M r column ≡ false) × (found ≡ None)) ⊎ ((r : ℕ) × IsIn r rows × (M r column ≡ true) × (found ≡ number_at numbers r))

-- the same for a column in which row i is 0, and no number for the other columns
abbrev pub IsPartTouched : (ℕ → ℕ → Bool) → ℕ → List ℕ → List (Option ℕ) → ℕ → Option ℕ → Type 0
IsPartTouched M i rows numbers column found = ((M i column ≡ true) × (found ≡ None)) ⊎ ((M i column ≡ false) × IsPartWith M rows numbers column found)

-- the number of one of the first parts that has a row with a nonzero in a column in which row i is 0, unless there is none
abbrev pub IsPartNumber : (ℕ → ℕ → Bool) → ℕ → List (List ℕ) → ℕ → ℕ → Option ℕ → Type 0
IsPartNumber M i parts count column found =
    (((a r : ℕ) → a < count → IsIn r (slice_index_or parts a []) → M i column ≡ false → M r column ≡ false) × (found ≡ None))
    ⊎ ((a : ℕ) × (r : ℕ) × (a < count) × IsIn r (slice_index_or parts a []) × (M i column ≡ false) × (M r column ≡ true) × (found ≡ Some a))

-- the columns of the rows before `place`
pub record AreColumnsOf (M : ℕ → ℕ → Bool) (rows : List ℕ) (place : ℕ) (columns : ℕ → Bool) : Type 0 where
  pub into : (column : ℕ) → columns column ≡ true → (p : ℕ) × (p < place) × (M (slice_index rows p) column ≡ true)
  pub from : (p column : ℕ) → p < place → M (slice_index rows p) column ≡ true → columns column ≡ true

-- the columns of the rows of a part, out of n columns
pub record IsSetOfPart (M : ℕ → ℕ → Bool) (n : ℕ) (rows : List ℕ) (set : Bits) : Type 0 where
  pub size : set.size ≡ n
  pub columns : AreColumnsOf M rows (length rows) (has_column set.words)

abbrev pub set_at : List Bits → ℕ → Bits
set_at sets part = slice_index_or sets part (record { size = 0; words = [] })

-- the columns of each of the first parts
pub record AreColumnsOfParts (M : ℕ → ℕ → Bool) (n : ℕ) (parts : List (List ℕ)) (count : ℕ) (sets : List Bits) : Type 0 where
  pub many : length sets ≡ count
  pub each : (a : ℕ) → a < count → IsSetOfPart M n (slice_index_or parts a []) (set_at sets a)

-- the columns of the rows before `place` in which row i is 0
pub record AreOfRows (M : ℕ → ℕ → Bool) (i : ℕ) (rows : List ℕ) (place : ℕ) (columns : ℕ → Bool) : Type 0 where
  pub into : (column : ℕ) → columns column ≡ true → (M i column ≡ false) × ((p : ℕ) × (p < place) × (M (slice_index rows p) column ≡ true))
  pub from : (p column : ℕ) → p < place → M i column ≡ false → M (slice_index rows p) column ≡ true → columns column ≡ true

-- a table with a line for each part, which marks the lines with the part's number
pub record ArePartMarks (numbers : List (Option ℕ)) (count : ℕ) (marks : Grid) : Type 0 where
  pub tall : marks.height ≡ count
  pub wide : marks.width ≡ length numbers
  pub exact : (part line : ℕ) → part < count → line < length numbers → cell marks part line ≡ is_part part (number_at numbers line)

-- all fields, for a matrix of these sizes
pub record IsJointOf (M : ℕ → ℕ → Bool) (m n i : ℕ) (parts : List (List ℕ)) (ends : List ℕ) (joint : Joint) : Type 0 where
  pub row : joint.row ≡ i
  pub rows : length joint.part_of.items ≡ m
  pub columns : length joint.part_with.items ≡ n
  pub numbered : AreNumbered parts (length parts) joint.part_of.items
  pub branches : AreBranches M n i parts ends (length parts) joint.branches.items
  pub with_columns : (column : ℕ) → IsPartNumber M i parts (length parts) column (number_at joint.part_with.items column)
  pub own_chunks : AreChunksOf (M i) n joint.row_chunks
  pub row_marks : ArePartMarks joint.part_of.items (length parts) joint.row_marks
  pub column_marks : ArePartMarks joint.part_with.items (length parts) joint.column_marks
  pub few : length parts ≤ MAX_ROWS

-- numbers and columns that are in range
pub record FitsJoint (m n : ℕ) (joint : Joint) : Type 0 where
  pub row : joint.row < m
  pub rows : length joint.part_of.items ≡ m
  pub columns : length joint.part_with.items ≡ n
  pub row_parts : (row a : ℕ) → number_at joint.part_of.items row ≡ Some a → a < length joint.branches.items
  pub column_parts : (column a : ℕ) → number_at joint.part_with.items column ≡ Some a → a < length joint.branches.items
  pub commons : (a column : ℕ) → (branch_at joint.branches.items a).common ≡ Some column → column < n
  pub row_marks : ArePartMarks joint.part_of.items (length joint.branches.items) joint.row_marks
  pub column_marks : ArePartMarks joint.part_with.items (length joint.branches.items) joint.column_marks
  pub few : length joint.branches.items ≤ MAX_ROWS

-- the tables have a row for the arc, and the marks a line for the part
pub record IsLineFor (joint : Joint) (sides : ArcSides) (arc part : ℕ) : Type 0 where
  pub arcs : arc < sides.arcs.height
  pub first : arc < sides.first.height
  pub last : arc < sides.last.height
  pub rows : part < joint.row_marks.height
  pub columns : part < joint.column_marks.height
  pub few : part < MAX_ROWS
  pub rows_wide : joint.row_marks.width ≡ sides.arcs.width
  pub columns_wide : joint.column_marks.width ≡ sides.first.width
  pub ends_wide : sides.last.width ≡ sides.first.width

-- except in its part and the row, arc r has nothing on its side `true`
pub record IsClearBeside (M : ℕ → ℕ → Bool) (joint : Joint) (sides : ArcSides) (r : ℕ) : Type 0 where
  pub arcs : (s : ℕ) → s ≢ joint.row → number_at joint.part_of.items s ≢ number_at joint.part_of.items r → side_in sides r s ≡ false
  pub ends : (end : Bool) (c : ℕ) → M joint.row c ≡ false → number_at joint.part_with.items c ≢ number_at joint.part_of.items r → end_in sides end r c ≡ false

-- columns of the row have no part
abbrev pub AreOff : (ℕ → ℕ → Bool) → Joint → Type 0
AreOff M joint = (column : ℕ) → M joint.row column ≡ true → number_at joint.part_with.items column ≡ None

-- the joint fits this matrix, its parts have no columns of the row, and it has the row's chunks
pub record FitsMatrix (m : Matrix) (joint : Joint) : Type 0 where
  pub fits : FitsJoint (height m) m.width joint
  pub off : AreOff (support m) joint
  pub chunks : AreChunksOf (support m joint.row) m.width joint.row_chunks

-- the end of the row's arc to which a part belongs
abbrev pub branch_end : Joint → Option ℕ → Bool
branch_end joint None = false
branch_end joint (Some part) = (branch_at joint.branches.items part).end

-- whether the part is one of the first parts and satisfies a test
abbrev pub is_chosen : (ℕ → Bool) → ℕ → Option ℕ → Bool
is_chosen test count None = false
is_chosen test count (Some part) = nat_lt part count && test part

-- the first parts that satisfy a test are put on side true of arc r
abbrev pub AreChosen : Joint → (ℕ → Bool) → ℕ → ℕ → ArcSides → ArcSides → Type 0
AreChosen joint test r count old new =
    IsArcChanged (λ other. side_in old r other || is_chosen test count (number_at joint.part_of.items other)) (λ end column. end_in old end r column || is_chosen test count (number_at joint.part_with.items column)) old new r

-- the part belongs to the first end of the row's arc
abbrev pub is_at_first : Joint → ℕ → Bool
is_at_first joint part = (branch_at joint.branches.items part).end

module _ (M : ℕ → ℕ → Bool) (joint : Joint) where
  -- the side of arc r on which a part lies; within the part of r it has the value `within`
  abbrev pub by_part : ℕ → Bool → Option ℕ → Bool
  by_part r within None = false
  by_part r within (Some part) = if (hanging_of joint).part r == part then within else spot M joint.row (hanging_of joint) r part

  abbrev pub joined_side : ArcSides → ℕ → ℕ → Bool
  joined_side old r s =
      if r == joint.row then branch_end joint (number_at joint.part_of.items s)
      else by_part r (reversed_side joint.row (side_in old) r s) (number_at joint.part_of.items s)

  -- whether the part is one of the first parts, differs from arc r's part, and hangs on side true of r
  abbrev pub hung : ℕ → ℕ → ℕ → Option ℕ → Bool
  hung r own count part = is_chosen (λ p. not (p == own) && spot M joint.row (hanging_of joint) r p) count part

  -- the first parts except arc r's own part are on the side of r on which they hang
  abbrev pub AreHung : ℕ → ℕ → ℕ → ArcSides → ArcSides → Type 0
  AreHung r own count old new =
      IsArcChanged (λ other. side_in old r other || hung r own count (number_at joint.part_of.items other)) (λ end column. end_in old end r column || hung r own count (number_at joint.part_with.items column)) old new r

  -- the ends on the sides of arc r, with the ends of the columns that r and the row have in common
  abbrev pub is_used : ℕ → ℕ → ArcSides → Bool → ℕ → Bool
  is_used r own old end column = end_in old end r column || (not (differ end (branch_at joint.branches.items own).end) && (M r column && M joint.row column))

  -- the sides of arc r in the tree of all rows
  pub record IsArcJoined (old new : ArcSides) (r : ℕ) : Type 0 where
    pub arcs : (s : ℕ) → s < old.arcs.width → side_in new r s ≡ joined_side old r s
    pub ends : (end : Bool) (column : ℕ) → column < old.first.width
        → end_in new end r column ≡ merged_lies M joint.row (hanging_of joint) (reversed_lies joint.row (side_in old) (end_in old)) end r column
