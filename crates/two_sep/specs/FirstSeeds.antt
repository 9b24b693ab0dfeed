-- Two-separations and their first good seeds.
use Rattle.std.specs.Prelude.{◌≡◌, ◌≢◌, ◌<◌, ◌+◌, ◌-◌, ◌⊎◌, cond, nat_lt, ℕ, pos, List, length, slice_index_or}
use Rattle.cmr_base.specs.declared.line.Line.{Line}
use Rattle.cmr_base.specs.declared.line.Line.TheVariants.{Column, Row}
use Rattle.cmr_base.specs.declared.separation.Two.{Two}
use Rattle.cmr_base.specs.Matrix.{Matrix, height, entry, IsMatrix}
use Rattle.cmr_base.specs.LineSets.{IsRowSet, IsColumnSet}
use Rattle.cmr_base.specs.Separations.{Lines, TwoSeparates, listed}
use Rattle.cmr_base.specs.Seeds.{IsGoodTwo, IsFirstTwo, line_number}
use Rattle.line_growth.specs.declared.rule.Block.TheVariants.{Product, Zero}
use Rattle.line_growth.specs.declared.rule.GrowthRule.{GrowthRule}

-- the separation of the first good two-seed
pub record IsFirstTwoSeparation (m : Matrix) (two : Two) : Type 0 where
  pub row_set : IsRowSet m two.side.rows
  pub column_set : IsColumnSet m two.side.columns
  pub first : IsFirstTwo (height m) m.width (entry m) (listed two.side.rows two.side.columns) two.row two.column
  pub separates : TwoSeparates m (listed two.side.rows two.side.columns) two.row two.column

-- ---- at one nonzero

abbrev pub seed_rule : ℕ → ℕ → GrowthRule
seed_rule i j = record { upper = Zero; lower = Product (record { row = i; column = j }) }

abbrev pub HasNoGoodSeed : Matrix → ℕ → ℕ → Type 0
HasNoGoodSeed m i j = (seed : Line) (side : Lines) → ¬ (IsGoodTwo (height m) m.width (entry m) i j seed side)

-- the set is the side of the first good seed at (i, j)
pub record IsFirstGoodSide (m : Matrix) (i j : ℕ) (side : Lines) : Type 0 where
  pub seed : Line
  pub good : IsGoodTwo (height m) m.width (entry m) i j seed side
  pub first : (other : Line) (side' : Lines) → IsGoodTwo (height m) m.width (entry m) i j other side' → ¬ (line_number (height m) other < line_number (height m) seed)

-- ---- lines that no two-separation separates

-- the line with a number in a matrix with `rows` rows
abbrev pub line_at_number : ℕ → ℕ → Line
line_at_number rows k = cond (nat_lt k rows) (Row k) (Column (k - rows))

abbrev pub AreTogether : Matrix → ℕ → ℕ → Type 0
AreTogether m x y = (i j : ℕ) (side : Lines) → TwoSeparates m side i j → side (line_at_number (height m) x) ≡ side (line_at_number (height m) y)

-- lines of one label are together
pub record AreLabelled (m : Matrix) (labels : List ℕ) : Type 0 where
  pub count : length labels ≡ height m + m.width
  pub labelled : (x y : ℕ) → x < height m + m.width → y < height m + m.width → slice_index_or labels x 0 ≡ slice_index_or labels y 0 → AreTogether m x y

-- lines of one label are together, and so are the lines of each nonzero before (row, column)
pub record ArePassed (m : Matrix) (row column : ℕ) (labels : List ℕ) : Type 0 where
  pub matrix : IsMatrix m
  pub linked : AreLabelled m labels
  pub before : (i j : ℕ) → i < height m → j < m.width → (i < row) ⊎ ((i ≡ row) × (j < column)) → entry m i j ≢ pos 0 → AreTogether m i (height m + j)
