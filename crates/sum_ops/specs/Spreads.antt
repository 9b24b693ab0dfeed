-- The block made from two columns and two rows.
use Rattle.std.specs.Prelude.{◌<◌, ◌≤◌, ◌+◌, ℕ, ℤ}
use Rattle.cmr_base.specs.Matrix.{Matrix, height, entry, IsEntry, IsMatrix}
use Rattle.cmr_base.specs.Separations.{spread}
use Rattle.sum_ops.specs.declared.spread.Spread.{Spread}

abbrev pub spread_entry : Spread → (first second : Matrix) → ℕ → ℕ → ℤ
spread_entry block first second r c =
    spread block.determinant (entry second 1 0) (entry second 1 1) (entry second 2 0) (entry second 2 1)
    (entry second r 0) (entry second r 1) (entry first block.model c) (entry first (block.model + 1) c)

-- the lines that make the block are lines of the matrices
pub record LinesAreThere (block : Spread) (first second : Matrix) : Type 0 where
  pub determinant : IsEntry block.determinant
  pub first_matrix : IsMatrix first
  pub first_rows : block.model + 1 < height first
  pub second_rows : 3 ≤ height second
  pub second_columns : 2 ≤ second.width
