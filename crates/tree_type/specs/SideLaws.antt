-- The rules on the sides of a sum, in terms of separations.
use Rattle.std.specs.Prelude.{◌≡◌, ◌↔◌, ℕ, ℤ, [], ◌∷◌}
use Rattle.cmr_base.specs.declared.line.Line.TheVariants.{Row, Column}
use Rattle.cmr_base.specs.declared.line_set.LineSet.{LineSet}
use Rattle.cmr_base.specs.declared.separation.Two.{Two}
use Rattle.cmr_base.specs.declared.separation.Three.{Three}
use Rattle.cmr_base.specs.Separations.{Lines, listed, rows_in, columns_in, child_one, child_two, connector_lines, first_is_flat, second_is_flat, IsTwoSeparation, IsThreeSeparation}
use Rattle.tree_type.specs.Sides.{sides, HaveLines, IsReference, AreTwoBlocks, two_one, two_two, AreConnectorsOfSides, AreThreeBlocks, three_one, three_two}

-- the predicate of side one
abbrev pub side_one : LineSet → Lines
side_one set = listed set.rows set.columns

-- the lines that are in a set
abbrev pub lines_kept : Lines → LineSet → LineSet
lines_kept set lines = record { rows = rows_in set lines.rows; columns = columns_in set lines.columns }

-- a two-sum keeps the rules on its sides if and only if its lines have this two-separation
abbrev pub TwoSumsSeparate : Type 0
TwoSumsSeparate = (M : ℕ → ℕ → ℤ) (lines : LineSet) (two : Two)
    → (HaveLines 2 (sides lines two.side) × IsReference M (sides lines two.side) two.row two.column × AreTwoBlocks M (sides lines two.side) two.row two.column)
    ↔ IsTwoSeparation M lines.rows lines.columns (side_one two.side) two.row two.column

-- a three-sum keeps the rules on its sides if and only if its lines have this three-separation
abbrev pub ThreeSumsSeparate : Type 0
ThreeSumsSeparate = (M : ℕ → ℕ → ℤ) (lines : LineSet) (t : Three)
    → (HaveLines 4 (sides lines t.side) × AreConnectorsOfSides M (sides lines t.side) t × AreThreeBlocks M (sides lines t.side) t)
    ↔ IsThreeSeparation M lines.rows lines.columns (side_one t.side) t.form t.first t.second

-- the children of a node have the lines of the children of its separation
abbrev pub TwoSumsHaveChildren : Type 0
TwoSumsHaveChildren = (lines : LineSet) (two : Two)
    → (two_one lines two ≡ lines_kept (child_one (side_one two.side) (Row two.row ∷ [])) lines)
    × (two_two lines two ≡ lines_kept (child_two (side_one two.side) (Column two.column ∷ [])) lines)

abbrev pub ThreeSumsHaveChildren : Type 0
ThreeSumsHaveChildren = (lines : LineSet) (t : Three)
    → (three_one lines t ≡ lines_kept (child_one (side_one t.side) (connector_lines (second_is_flat t.form) t.second)) lines)
    × (three_two lines t ≡ lines_kept (child_two (side_one t.side) (connector_lines (first_is_flat t.form) t.first)) lines)
