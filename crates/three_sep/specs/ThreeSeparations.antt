-- Three-separations by their first good seeds.
use Rattle.cmr_base.specs.declared.separation.Three.{Three}
use Rattle.cmr_base.specs.Matrix.{Matrix, height, entry}
use Rattle.cmr_base.specs.LineSets.{IsRowSet, IsColumnSet}
use Rattle.cmr_base.specs.Separations.{ThreeSeparates, listed}
use Rattle.cmr_base.specs.Seeds.{IsFirstThree}

-- the three-separation of the first good three-seed
pub record IsFirstThreeSeparation (m : Matrix) (three : Three) : Type 0 where
  pub row_set : IsRowSet m three.side.rows
  pub column_set : IsColumnSet m three.side.columns
  pub first : IsFirstThree (height m) m.width (entry m) (listed three.side.rows three.side.columns) three.form three.first three.second
  pub separates : ThreeSeparates m (listed three.side.rows three.side.columns) three.form three.first three.second
