-- Nodes with two children: two- and three-sums.
use Rattle.std.proofs.Common.{◌≡◌, ◌∷◌, [], subst}
use Rattle.cmr_base.specs.declared.line.Line.TheVariants.{Row, Column}
use Rattle.cmr_base.specs.declared.line_set.LineSet.{LineSet}
use Rattle.cmr_base.specs.declared.separation.Two.{Two}
use Rattle.cmr_base.specs.declared.separation.Three.{Three}
use Rattle.cmr_base.specs.Matrix.{Matrix, entry, IsMatrix}
use Rattle.cmr_base.specs.Separations.{Lines, rows_in, columns_in, child_one, child_two, connector_lines, first_is_flat, second_is_flat}
use Rattle.cmr_base.specs.Violator.{HasNoViolator}
use Rattle.ghouila.specs.SumLaws.{on_lines}
use Rattle.ghouila.proofs.ChildLines.{two_separations_decide, three_separations_decide}
use Rattle.ghouila.proofs.ViolatedLines.{free_from_submatrix, submatrix_from_free}
use Rattle.tree_type.specs.Sides.{sides, HaveLines, IsReference, AreTwoBlocks, two_one, two_two, AreConnectorsOfSides, HasCornerSign, AreThreeBlocks, three_one, three_two}
use Rattle.tree_type.specs.SideLaws.{side_one, lines_kept}
use Rattle.tree_type.proofs.SideLemmas.{two_sums_separate, three_sums_separate, two_sums_have_children, three_sums_have_children}
use Rattle.tree_laws.proofs.FreeSets.{IsFreeOn}

-- the lines of a child are the lines of the separation's child
none_on : (m : Matrix) (lines child : LineSet) (set : Lines) → child ≡ lines_kept set lines → IsFreeOn m child → HasNoViolator (on_lines m lines.rows lines.columns set)
none_on m lines child set e free = submatrix_from_free m (rows_in set lines.rows) (columns_in set lines.columns) (subst (IsFreeOn m) e free)

pub free_two : (m : Matrix) → IsMatrix m → (lines : LineSet) (two : Two) → HaveLines 2 (sides lines two.side)
    → IsReference (entry m) (sides lines two.side) two.row two.column → AreTwoBlocks (entry m) (sides lines two.side) two.row two.column
    → IsFreeOn m (two_one lines two) → IsFreeOn m (two_two lines two) → IsFreeOn m lines
free_two m is lines two enough reference blocks one other =
    let children = two_sums_have_children lines two in
    free_from_submatrix m lines.rows lines.columns
    ((two_separations_decide m lines.rows lines.columns (side_one two.side) two.row two.column is.small ((two_sums_separate (entry m) lines two).0 (enough, reference, blocks))).1
    (none_on m lines (two_one lines two) (child_one (side_one two.side) (Row two.row ∷ [])) children.0 one, none_on m lines (two_two lines two) (child_two (side_one two.side) (Column two.column ∷ [])) children.1 other))

pub free_three : (m : Matrix) → IsMatrix m → (lines : LineSet) (t : Three) → HaveLines 4 (sides lines t.side)
    → AreConnectorsOfSides (entry m) (sides lines t.side) t → HasCornerSign (entry m) t → AreThreeBlocks (entry m) (sides lines t.side) t
    → IsFreeOn m (three_one lines t) → IsFreeOn m (three_two lines t) → IsFreeOn m lines
free_three m is lines t enough joined plus blocks one other =
    let children = three_sums_have_children lines t in
    free_from_submatrix m lines.rows lines.columns
    ((three_separations_decide m lines.rows lines.columns (side_one t.side) is.small t.form t.first t.second ((three_sums_separate (entry m) lines t).0 (enough, joined, blocks)) plus).1 (
      none_on m lines (three_one lines t) (child_one (side_one t.side) (connector_lines (second_is_flat t.form) t.second)) children.0 one,
      none_on m lines (three_two lines t) (child_two (side_one t.side) (connector_lines (first_is_flat t.form) t.first)) children.1 other,
    ))
