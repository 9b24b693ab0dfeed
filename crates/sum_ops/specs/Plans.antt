-- Matrices of four blocks, by their plans.
use Rattle.std.specs.Prelude.{◌≡◌, ◌<◌, ◌≤◌, ◌+◌, ◌-◌, ◌*ℤ◌, ℕ, ℤ, pos, true, cond}
use Rattle.cmr_base.specs.Matrix.{Matrix, height, entry, IsEntry, IsMatrix}
use Rattle.cmr_base.specs.MatrixSums.{four_blocks}
use Rattle.sum_ops.specs.declared.plan.LowerBlock.{LowerBlock}
use Rattle.sum_ops.specs.declared.plan.LowerBlock.TheVariants.{Zero, Product, Spread}
use Rattle.sum_ops.specs.declared.plan.Plan.{Plan}
use Rattle.sum_ops.specs.Spreads.{spread_entry, LinesAreThere}

abbrev pub rows_of_sum : Plan → Matrix → ℕ
rows_of_sum plan second = plan.rows + (height second - plan.up)

abbrev pub columns_of : Plan → Matrix → ℕ
columns_of plan second = plan.columns + (second.width - plan.left)

abbrev pub upper_entry : Plan → Matrix → Matrix → ℕ → ℕ → ℤ
upper_entry plan first second r c = cond plan.upper (entry first r plan.columns *ℤ entry second 0 c) (pos 0)

-- the block after the first `rows` rows of the first matrix
abbrev pub lower_entry : LowerBlock → (rows : ℕ) (first second : Matrix) → ℕ → ℕ → ℤ
lower_entry Zero rows first second r c = pos 0
lower_entry Product rows first second r c = entry second r 0 *ℤ entry first rows c
lower_entry (Spread block) rows first second r c = spread_entry block first second r c

abbrev pub entries_of : Plan → Matrix → Matrix → ℕ → ℕ → ℤ
entries_of plan first second = four_blocks plan.rows plan.columns plan.up plan.left (entry first) (upper_entry plan first second) (lower_entry plan.lower plan.rows first second) (entry second)

-- the lines that make the lower block are lines of the matrices, and its entries are -1, 0 and 1
abbrev pub LowerFits : LowerBlock → Plan → Matrix → Matrix → Type 0
LowerFits Zero plan first second = Unit {0}
LowerFits Product plan first second = (plan.rows < height first) × (0 < second.width)
LowerFits (Spread block) plan first second =
    LinesAreThere block first second × ((r c : ℕ) → plan.up ≤ r → r < height second → c < plan.columns → IsEntry (spread_entry block first second r c))

-- the lines that the plan uses are lines of the matrices
pub record FitsPlan (plan : Plan) (first second : Matrix) : Type 0 where
  pub rows : plan.rows ≤ height first
  pub columns : plan.columns ≤ first.width
  pub up : plan.up ≤ height second
  pub left : plan.left ≤ second.width
  pub first_matrix : IsMatrix first
  pub upper_column : plan.upper ≡ true → plan.columns < first.width
  pub upper_row : plan.upper ≡ true → 0 < height second
  pub lower : LowerFits plan.lower plan first second
