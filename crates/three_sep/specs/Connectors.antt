-- Two connectors and the rule that they define.
use Rattle.std.specs.Prelude.{◌≡◌, ◌++◌, ℕ, List, [], ◌∷◌}
use Rattle.std.specs.List.{AllByRecursion}
use Rattle.cmr_base.specs.declared.line.Line.{Line}
use Rattle.cmr_base.specs.declared.separation.Form.{Form}
use Rattle.cmr_base.specs.declared.separation.Form.TheVariants.{Concentrated}
use Rattle.cmr_base.specs.LineSets.{first_lines}
use Rattle.cmr_base.specs.Matrix.{Matrix, height, entry}
use Rattle.cmr_base.specs.Separations.{AreEnough, Lines, connector_lines, first_is_flat, second_is_flat, lower_block, upper_block}
use Rattle.cmr_base.specs.Seeds.{HasAll, IsConnectorPair, IsLine}
use Rattle.cuts.specs.declared.corners.Corners.{Corners}
use Rattle.line_growth.specs.declared.rule.Block.TheVariants.{Product}
use Rattle.line_growth.specs.declared.rule.GrowthRule.{GrowthRule}
use Rattle.line_growth.specs.GrowingSets.{HasNone, IsClosedIn}
use Rattle.line_growth.specs.Rules.{IsRuleOf, lower_of, upper_of}
use Rattle.three_sep.specs.declared.connectors.Connectors.{Connectors}
use Rattle.three_sep.specs.FirstCuts.{first_corner, second_corner}
use Rattle.three_sep.specs.Searches.{corner_prefix, corners_of, first_at, second_at}

-- the connectors with two corners and the other lines q and o
abbrev pub connectors_at : Corners → ℕ → ℕ → Connectors
connectors_at c q o = record { first = first_at c q; second = second_at c o }

abbrev pub firsts : Form → Connectors → List Line
firsts form d = connector_lines (first_is_flat form) d.first

abbrev pub seconds : Form → Connectors → List Line
seconds form d = connector_lines (second_is_flat form) d.second

-- the rule whose blocks are the products at (i, j) and (k, p)
abbrev pub rule_of : Corners → GrowthRule
rule_of c = record { upper = Product (record { row = c.one.row; column = c.two.column }); lower = Product (record { row = c.two.row; column = c.one.column }) }

-- the lines of two connectors of the concentrated form are in the matrix
pub record ArePlaced (m : Matrix) (d : Connectors) : Type 0 where
  pub first : AllByRecursion (IsLine (height m) m.width) (firsts Concentrated d)
  pub second : AllByRecursion (IsLine (height m) m.width) (seconds Concentrated d)

-- two connectors of a form, and the rule of its blocks
pub record AreConnectorsOf (m : Matrix) (form : Form) (rule : GrowthRule) (d : Connectors) : Type 0 where
  pub pair : IsConnectorPair (height m) m.width (entry m) form d.first d.second
  pub inside : IsRuleOf m rule
  pub upper : upper_of m rule ≡ upper_block (entry m) form d.first d.second
  pub lower : lower_of m rule ≡ lower_block (entry m) form d.first d.second

abbrev pub all_prefix : Form → Connectors → List ℕ
all_prefix form d = corner_prefix form (corners_of d) ++ d.first.other ∷ d.second.other ∷ []

-- no set that is closed under the rule has all first lines and no second line, with four lines or more on each side
abbrev pub HasNoneParting : Matrix → GrowthRule → (first second : List Line) → Type 0
HasNoneParting m rule first second = (T : Lines) → IsClosedIn m (upper_of m rule) (lower_of m rule) T → HasAll T first → HasNone T second → ¬ (AreEnough (first_lines (height m)) (first_lines m.width) T 4)

-- no separation by the products at the corners has the first corner in side one and the second corner in side two
abbrev pub HasNoneAtCorners : Matrix → Corners → Type 0
HasNoneAtCorners m c = HasNoneParting m (rule_of c) (first_corner c) (second_corner c)
