-- The columns in which a row is 0, as a set.
use Rattle.std.specs.Prelude.{◌≡◌, ◌<◌, ℕ, not}
use Rattle.cmr_base.specs.BitSets.{Bits}
use Rattle.cmr_base.specs.ColumnSets.{has_column}
use Rattle.cmr_base.specs.Matrix.{Matrix}
use Rattle.cmr_base.specs.Trees.{support}

pub record AreZeros (m : Matrix) (i : ℕ) (zeros : Bits) : Type 0 where
  pub size : zeros.size ≡ m.width
  pub exact : (column : ℕ) → column < m.width → has_column zeros.words column ≡ not (support m i column)
