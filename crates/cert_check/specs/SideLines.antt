-- Lines on the sides of a separation.
use Rattle.std.specs.Prelude.{◌<◌, Bool, true, false}
use Rattle.cmr_base.specs.declared.line_set.LineSet.{LineSet}
use Rattle.cmr_base.specs.declared.separation.Two.{Two}
use Rattle.cmr_base.specs.declared.separation.Connector.{Connector}
use Rattle.cmr_base.specs.declared.separation.Three.{Three}
use Rattle.cmr_base.specs.Matrix.{Matrix, height}
use Rattle.tree_type.specs.Sides.{Sides, two_one, two_two, three_one, three_two}

-- the lines of the first child (true) or of the second child (false) of a two-sum
abbrev pub two_child : Bool → LineSet → Two → LineSet
two_child true lines two = two_one lines two
two_child false lines two = two_two lines two

abbrev pub three_child : Bool → LineSet → Three → LineSet
three_child true lines t = three_one lines t
three_child false lines t = three_two lines t

-- two sets of lines as sides
abbrev pub sides_from : LineSet → LineSet → Sides
sides_from one two = record { rows_one = one.rows; columns_one = one.columns; rows_two = two.rows; columns_two = two.columns }

-- the lines of a connector are lines of the matrix
abbrev pub IsConnectorIn : Matrix → Bool → Connector → Type 0
IsConnectorIn m true c = (c.row < height m) × (c.column < m.width) × (c.other < m.width)
IsConnectorIn m false c = (c.row < height m) × (c.column < m.width) × (c.other < height m)
