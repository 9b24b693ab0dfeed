-- Lines that can be the other lines of the connectors at two corners.
use Rattle.std.specs.Prelude.{◌≡◌, ◌≢◌, ◌<◌, ℕ, ℤ, pos, Bool, true, List}
use Rattle.cmr_base.specs.declared.line.Line.{Line}
use Rattle.cmr_base.specs.declared.line.Line.TheVariants.{Row, Column}
use Rattle.cmr_base.specs.declared.position.Position.{Position}
use Rattle.cmr_base.specs.Matrix.{Matrix, height, entry}
use Rattle.cmr_base.specs.LineSets.{first_lines}
use Rattle.cmr_base.specs.Separations.{AreEnough, Lines}
use Rattle.cmr_base.specs.Seeds.{HasAll, IsLine}
use Rattle.cuts.specs.declared.corners.Corners.{Corners}
use Rattle.line_growth.specs.declared.rule.GrowthRule.{GrowthRule}
use Rattle.line_growth.specs.GrowingSets.{HasNone, IsClosedIn}
use Rattle.line_growth.specs.Rules.{lower_of, upper_of}
use Rattle.three_sep.specs.Connectors.{rule_of}
use Rattle.three_sep.specs.FirstCuts.{first_corner, second_corner}
use Rattle.three_sep.specs.Searches.{other_line}

-- the line is 0 in the line of a corner that it crosses, and not 0 in that of the other corner
abbrev pub IsTiedLine : (ℕ → ℕ → ℤ) → (own across : Position) → Line → Type 0
IsTiedLine M own across (Row r) = (M r own.column ≡ pos 0) × (M r across.column ≢ pos 0)
IsTiedLine M own across (Column c) = (M own.row c ≡ pos 0) × (M across.row c ≢ pos 0)

-- each set that is closed under the rule and has the start has the line
abbrev pub Forces : Matrix → GrowthRule → List Line → Line → Type 0
Forces m rule start x = (T : Lines) → IsClosedIn m (upper_of m rule) (lower_of m rule) T → HasAll T start → T x ≡ true

abbrev pub ForcesTied : Matrix → GrowthRule → List Line → (own across : Position) → Type 0
ForcesTied m rule start own across = (x : Line) → IsLine (height m) m.width x → IsTiedLine (entry m) own across x → Forces m rule start x

-- the columns, or the rows, that are 0 in one line and not in another, as columns of the matrix `lines`
abbrev pub ForcesAlong : Matrix → GrowthRule → List Line → (lines : Matrix) → (own across : ℕ) → Bool → (most : ℕ) → Type 0
ForcesAlong m rule start lines own across flat most = (c : ℕ) → c < most → entry lines own c ≡ pos 0 → entry lines across c ≢ pos 0 → Forces m rule start (other_line flat c)

-- the corners with their sides exchanged
abbrev pub corners_exchanged : Corners → Corners
corners_exchanged c = record { one = c.two; two = c.one }

-- Let a set be closed under the products at the corners, have the first corner and not the second, with four lines or more on each side. If it
-- has a tied line of the first corner, it has all tied lines of the second. So no good seed of the forms delta, Y and mixed has the corners.
pub record AreRefused (m : Matrix) (c : Corners) : Type 0 where
  pub no_tied : (T : Lines) → IsClosedIn m (upper_of m (rule_of c)) (lower_of m (rule_of c)) T → HasAll T (first_corner c) → HasNone T (second_corner c)
      → AreEnough (first_lines (height m)) (first_lines m.width) T 4 → (x y : Line) → IsLine (height m) m.width x → IsLine (height m) m.width y
      → IsTiedLine (entry m) c.one c.two x → IsTiedLine (entry m) c.two c.one y → T x ≡ true → T y ≡ true
