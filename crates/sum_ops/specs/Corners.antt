-- The corners of connecting lines.
use Rattle.std.specs.Prelude.{◌≤◌, ◌-◌, ℤ, Bool}
use Rattle.cmr_base.specs.Matrix.{Matrix, height, entry}
use Rattle.cmr_base.specs.Signing.{IsSign}
use Rattle.cmr_base.specs.MatrixSums.{connecting_rows, connecting_columns, EndsIn, BeginsWithConnector}

-- the last lines of the matrix are connecting lines of this kind with this corner
pub record IsLastCorner (flat : Bool) (m : Matrix) (corner : ℤ) : Type 0 where
  pub rows : connecting_rows flat ≤ height m
  pub columns : connecting_columns flat ≤ m.width
  pub sign : IsSign corner
  pub ends : EndsIn flat corner (height m - connecting_rows flat) (m.width - connecting_columns flat) (entry m)

-- the first lines of the matrix are connecting lines of this kind with this corner
pub record IsFirstCorner (flat : Bool) (m : Matrix) (corner : ℤ) : Type 0 where
  pub rows : connecting_rows flat ≤ height m
  pub columns : connecting_columns flat ≤ m.width
  pub sign : IsSign corner
  pub begins : BeginsWithConnector flat corner (height m - connecting_rows flat) (m.width - connecting_columns flat) (entry m)

-- the first matrix ends with connecting lines of a kind, the second begins with connecting lines of a kind, and both have one corner
pub record HaveOneCorner (last begin : Bool) (first second : Matrix) : Type 0 where
  pub corner : ℤ
  pub one : IsLastCorner last first corner
  pub two : IsFirstCorner begin second corner
