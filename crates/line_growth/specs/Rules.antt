-- Rules for the blocks between the lines of a set and the other lines.
use Rattle.std.specs.Prelude.{◌≡◌, ◌<◌, ◌⊎◌, ◌+ℤ◌, ◌-ℤ◌, ◌*ℤ◌, ℕ, ℤ, pos}
use Rattle.cmr_base.specs.Cores.{HasEntries, IsBounded, IsCoreAt}
use Rattle.cmr_base.specs.Matrix.{Matrix, IsEntry, height, entry}
use Rattle.cmr_base.specs.Separations.{zeros, product_at, spread_at}
use Rattle.line_growth.specs.declared.rule.Block.{Block}
use Rattle.line_growth.specs.declared.rule.Block.TheVariants.{Zero, Product, Spread}
use Rattle.line_growth.specs.declared.rule.Multiple.{Multiple}
use Rattle.line_growth.specs.declared.rule.GrowthRule.{GrowthRule}
use Rattle.line_growth.specs.declared.rule.SpreadLines.{SpreadLines}
use Rattle.line_growth.specs.declared.rule.Sum.{Sum}

abbrev pub block_entry : (ℕ → ℕ → ℤ) → Block → ℕ → ℕ → ℤ
block_entry M Zero = zeros
block_entry M (Product place) = product_at M place.row place.column
block_entry M (Spread lines) = spread_at M (record { row = lines.upper; column = lines.left; other = lines.right }) (record { row = lines.upper; column = lines.left; other = lines.lower })

abbrev pub upper_of : Matrix → GrowthRule → ℕ → ℕ → ℤ
upper_of m rule = block_entry (entry m) rule.upper

abbrev pub lower_of : Matrix → GrowthRule → ℕ → ℕ → ℤ
lower_of m rule = block_entry (entry m) rule.lower

abbrev pub exchanged : GrowthRule → GrowthRule
exchanged rule = record { upper = rule.lower; lower = rule.upper }

-- two rows and two columns of the matrix, with the entries in which they cross
pub record IsSpreadOf (m : Matrix) (lines : SpreadLines) : Type 0 where
  pub upper : lines.upper < height m
  pub lower : lines.lower < height m
  pub left : lines.left < m.width
  pub right : lines.right < m.width
  pub core : IsCoreAt (entry m) lines.upper lines.lower lines.left lines.right lines.core
  pub entries : HasEntries lines.core
  pub determinant : lines.determinant ≡ lines.core.x *ℤ lines.core.w -ℤ lines.core.y *ℤ lines.core.z
  pub small : IsBounded 2 lines.determinant

-- its lines are lines of the matrix
abbrev pub IsBlockOf : Matrix → Block → Type 0
IsBlockOf m Zero = Unit {0}
IsBlockOf m (Product place) = (place.row < height m) × (place.column < m.width)
IsBlockOf m (Spread lines) = IsSpreadOf m lines

pub record IsRuleOf (m : Matrix) (rule : GrowthRule) : Type 0 where
  pub upper : IsBlockOf m rule.upper
  pub lower : IsBlockOf m rule.lower

-- ---- sums of multiples of two rows

-- the entry of the sum in a column
abbrev pub sum_at : Matrix → Sum → ℕ → ℤ
sum_at m sum column = sum.factors.first *ℤ entry m sum.first column +ℤ sum.factors.other *ℤ entry m sum.other column

-- a sum of rows of the matrix
pub record IsSumOf (m : Matrix) (sum : Sum) : Type 0 where
  pub first : sum.first < height m
  pub other : sum.other < height m
  pub first_factor : IsBounded 4 sum.factors.first
  pub other_factor : IsBounded 4 sum.factors.other

-- one factor is 0, and the other is -1, 0 or 1
abbrev pub IsOfOneLine : Sum → Type 0
IsOfOneLine sum = ((sum.factors.other ≡ pos 0) × IsEntry sum.factors.first) ⊎ ((sum.factors.first ≡ pos 0) × IsEntry sum.factors.other)

-- a multiple that is the sum in each matrix
pub record IsSumMultiple (sum : Sum) (multiple : Multiple) : Type 0 where
  pub factor : IsEntry multiple.factor
  pub model : (m : Matrix) → IsSumOf m sum → multiple.model < height m
  pub value : (m : Matrix) (column : ℕ) → sum_at m sum column ≡ multiple.factor *ℤ entry m multiple.model column
