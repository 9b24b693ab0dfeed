-- Columns that are reached from the ends of a side.
use Rattle.std.specs.Prelude.{◌≡◌, ◌<◌, ℕ, true}
use Rattle.cmr_base.specs.BitSets.{Bits}
use Rattle.cmr_base.specs.ColumnSets.{has_column}
use Rattle.cmr_base.specs.Matrix.{height}
use Rattle.cmr_base.specs.Trees.{support}
use Rattle.path_places.specs.declared.side.Side.{Side}

-- an inner column with a nonzero in an inner row that has another in a reached column
pub record IsNext (side : Side) (reached : Bits) (c : ℕ) : Type 0 where
  pub column : has_column side.inner.columns.words c ≡ true
  pub row : ℕ
  pub row_in : row < height side.matrix.now
  pub row_inner : has_column side.inner.rows.words row ≡ true
  pub here : support side.matrix.now row c ≡ true
  pub before : ℕ
  pub is_reached : has_column reached.words before ≡ true
  pub there : support side.matrix.now row before ≡ true
