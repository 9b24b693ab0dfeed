-- What a node says of a separation.
use Rattle.std.proofs.Common.{◌<◌, ℕ, Bool, true, false, [], ◌∷◌, length, refl, subst, arith}
use Rattle.std.proofs.lemmas.Bool.{true≢false}
use Rattle.cmr_base.specs.declared.line_set.LineSet.{LineSet}
use Rattle.cmr_base.specs.declared.separation.Connector.{Connector}
use Rattle.cmr_base.specs.declared.separation.Two.{Two}
use Rattle.cmr_base.specs.declared.separation.Three.{Three}
use Rattle.cmr_base.specs.Matrix.{Matrix, height, entry, IsMatrix}
use Rattle.cmr_base.specs.CyclePlaces.{HasNoCycleFault}
use Rattle.cmr_base.specs.LineSets.{IsRowSet, IsColumnSet, first_lines}
use Rattle.cmr_base.specs.Separations.{Lines, listed, AreOn, connector_lines, first_is_flat, second_is_flat}
use Rattle.cmr_base.proofs.ListedLines.{first_lines_contain}
use Rattle.two_sep.specs.FirstSeeds.{IsFirstTwoSeparation}
use Rattle.three_sep.specs.ThreeSeparations.{IsFirstThreeSeparation}
use Rattle.tree_type.specs.Invariant.{AreLines, AreLinesOf}
use Rattle.tree_type.specs.Sides.{HasConnector, two_one, two_two, three_one, three_two}
use Rattle.tree_type.specs.Soundness.{part}
use Rattle.tree_type.specs.DecompositionTrees.{TwoSum, ThreeSum}
use Rattle.decomp_tree.specs.Shapes.{IsTwoSum, IsThreeSum, set_in, connector_in, two_in, three_in}
use Rattle.decomp_tree.specs.Seen.{IsPlacedSet, IsPlacedConnector, HasNoneBefore, IsSaid}
use Rattle.decomp_tree.proofs.Numbered.{height_in}
use Rattle.decomp_tree.proofs.Kept.{named_contained, named_lines, children_two, children_three}
use Rattle.decomp_tree.proofs.Said.{placed}
use Rattle.decomp_tree.proofs.ShapeRules.{short_two, keeps_three}

module _ (limit : ℕ) (m : Matrix) (is : IsMatrix m) (lines : LineSet) (are : AreLines m lines) where
  row_low : (row : ℕ) → row < height (part m lines) → row < length lines.rows
  row_low row l = subst (λ k. row < k) (height_in m lines) l

  side_among : (side : LineSet) → IsRowSet (part m lines) side.rows → IsColumnSet (part m lines) side.columns → AreLinesOf (set_in lines side) lines
  side_among side rows columns = named_lines lines side are.rows.increasing are.columns.increasing (placed limit m is lines are side.rows side.columns rows columns) rows.increasing columns.increasing

  module _ (two : Two) (found : IsFirstTwoSeparation (part m lines) two) where
    pub two_side_placed : IsPlacedSet lines two.side
    two_side_placed = placed limit m is lines are two.side.rows two.side.columns found.row_set found.column_set

    pub two_row_placed : two.row < length lines.rows
    two_row_placed = row_low two.row (first_lines_contain (height (part m lines)) two.row found.separates.two.0.0)

    pub two_column_placed : two.column < length lines.columns
    two_column_placed = first_lines_contain (length lines.columns) two.column found.separates.one.0.0

    pub said_two : HasNoneBefore limit (part m lines) 8 → IsSaid limit m lines (TwoSum (two_in lines two)) (two_one lines (two_in lines two) ∷ two_two lines (two_in lines two) ∷ [])
    said_two none =
        let children = children_two lines are.rows.increasing are.columns.increasing (two_in lines two) (short_two 0 (omega arith) m is lines are two found) in
        record {
          case = IsTwoSum;
          applies = (two.row, two.column, listed two.side.rows two.side.columns, found.separates);
          others = none;
          searched = λ e. absurd (true≢false e);
          found = TwoSum two;
          parts = [];
          says = found;
          finding_is = refl;
          parts_are = tt;
          due = ((refl, refl), ((refl, refl), tt));
          count = refl;
          fewer = (children.0, (children.1, tt));
          fits = λ trees e. (side_among two.side found.row_set found.column_set, named_contained lines.rows two.row two_row_placed, named_contained lines.columns two.column two_column_placed);
        }

  placed_connector : (b flat : Bool) (S : Lines) (c : Connector)
      → AreOn (first_lines (height (part m lines))) (first_lines (length lines.columns)) S b (connector_lines flat c) → IsPlacedConnector flat lines c
  placed_connector b true S c h = (
    row_low c.row (first_lines_contain (height (part m lines)) c.row h.0.0),
    first_lines_contain (length lines.columns) c.column h.1.0.0,
    first_lines_contain (length lines.columns) c.other h.1.1.0.0,
  )
  placed_connector b false S c h = (
    row_low c.row (first_lines_contain (height (part m lines)) c.row h.0.0),
    first_lines_contain (length lines.columns) c.column h.1.0.0,
    row_low c.other (first_lines_contain (height (part m lines)) c.other h.1.1.0.0),
  )

  among_connector : (flat : Bool) (c : Connector) → IsPlacedConnector flat lines c → HasConnector flat lines.rows lines.columns (connector_in flat lines c)
  among_connector true c p = (named_contained lines.rows c.row p.0, named_contained lines.columns c.column p.1, named_contained lines.columns c.other p.2)
  among_connector false c p = (named_contained lines.rows c.row p.0, named_contained lines.columns c.column p.1, named_contained lines.rows c.other p.2)

  module _ (t : Three) (found : IsFirstThreeSeparation (part m lines) t) where
    pub three_side_placed : IsPlacedSet lines t.side
    three_side_placed = placed limit m is lines are t.side.rows t.side.columns found.row_set found.column_set

    pub first_placed : IsPlacedConnector (first_is_flat t.form) lines t.first
    first_placed = placed_connector true (first_is_flat t.form) (listed t.side.rows t.side.columns) t.first found.separates.one

    pub second_placed : IsPlacedConnector (second_is_flat t.form) lines t.second
    second_placed = placed_connector false (second_is_flat t.form) (listed t.side.rows t.side.columns) t.second found.separates.two

    pub said_three : HasNoneBefore limit (part m lines) 9 → HasNoCycleFault (entry (part m lines))
        → IsSaid limit m lines (ThreeSum (three_in lines t)) (three_one lines (three_in lines t) ∷ three_two lines (three_in lines t) ∷ [])
    said_three none no_fault =
        let keeps = keeps_three 0 (omega arith) m is lines are t no_fault found in
        let children = children_three lines are.rows.increasing are.columns.increasing (three_in lines t) keeps.short in
        record {
          case = IsThreeSum;
          applies = (t.form, t.first, t.second, listed t.side.rows t.side.columns, found.separates);
          others = none;
          searched = λ e l. no_fault;
          found = ThreeSum t;
          parts = [];
          says = found;
          finding_is = refl;
          parts_are = tt;
          due = ((refl, refl), ((refl, refl), tt));
          count = refl;
          fewer = (children.0, (children.1, tt));
          fits = λ trees e. (side_among t.side found.row_set found.column_set, among_connector (first_is_flat t.form) t.first first_placed, among_connector (second_is_flat t.form) t.second second_placed);
        }
