-- A matrix with a separation is the sum of the two matrices that the separation gives.
use Rattle.std.specs.Prelude.{◌≡◌}
use Rattle.cmr_base.specs.declared.separation.Two.{Two}
use Rattle.cmr_base.specs.declared.separation.Three.{Three}
use Rattle.cmr_base.specs.Matrix.{Matrix, height, entry, HasTernaryEntries}
use Rattle.cmr_base.specs.LineSets.{first_lines, submatrix}
use Rattle.cmr_base.specs.R10.{IsOrder}
use Rattle.cmr_base.specs.Separations.{listed, IsTwoSeparation, IsThreeSeparation, HaveCornerSign}
use Rattle.compose.specs.declared.sum_kind.SumKind.{SumKind}
use Rattle.compose.specs.declared.sum_kind.SumKind.TheVariants as kind
use Rattle.compose.specs.declared.arrangement.Arranged.{Arranged}
use Rattle.compose.specs.Arrangements.{arranged, two_arrangement, three_arrangement}
use Rattle.compose.specs.SumKinds.{kind_of_form, HaveSum, sum_of}

-- a two-separation of all lines of the matrix
abbrev pub IsTwoOf : Matrix → Two → Type 0
IsTwoOf m two = IsTwoSeparation (entry m) (first_lines (height m)) (first_lines m.width) (listed two.side.rows two.side.columns) two.row two.column

-- a three-separation of all lines of the matrix, with the sign of the corners if its form has corners
pub record IsThreeOf (m : Matrix) (three : Three) : Type 0 where
  pub separation : IsThreeSeparation (entry m) (first_lines (height m)) (first_lines m.width) (listed three.side.rows three.side.columns) three.form three.first three.second
  pub corners : HaveCornerSign (entry m) three.form three.first three.second

-- the two matrices have the connecting lines of the sum, and their sum is the matrix with its lines in this order
pub record IsRoundTrip (kind : SumKind) (m : Matrix) (a : Arranged) : Type 0 where
  pub rows : IsOrder (height m) a.rows
  pub columns : IsOrder m.width a.columns
  pub connected : HaveSum kind a.first a.second
  pub sum : sum_of kind a.first a.second ≡ submatrix m a.rows a.columns

abbrev pub TwoRoundTrip : Type 0
TwoRoundTrip = (m : Matrix) (two : Two) → IsTwoOf m two → IsRoundTrip kind.Two m (arranged m (two_arrangement m two))

abbrev pub ThreeRoundTrip : Type 0
ThreeRoundTrip = (m : Matrix) (three : Three) → HasTernaryEntries m → IsThreeOf m three → IsRoundTrip (kind_of_form three.form) m (arranged m (three_arrangement m three))
