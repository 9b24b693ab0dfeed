-- The arguments and the texts determine a report of `graphic` or `network`, except which network shows the property.
use Rattle.std.specs.Prelude.{◌≡◌, Bool}
use Rattle.cmr_base.specs.Matrix.{Matrix}
use Rattle.cmr_base.specs.declared.network.Network.{Network as Net}
use Rattle.cmr_front.specs.Report.{File}
use Rattle.cmr_classes.specs.declared.tools.graphic_network.TestedProperty.{TestedProperty}
use Rattle.cmr_classes.specs.GraphicNetwork.{Shows, tested_matrix, written_graph}

-- Two files of one name are equal, or hold the texts of two networks that show the property of one matrix.
pub data HoldAlikeNetworks (f g : File) : Type 0 where
  same : f ≡ g → HoldAlikeNetworks f g
  networks : f.name ≡ g.name → (p : TestedProperty) (transposed : Bool) (m : Matrix) (net other : Net) → Shows p net (tested_matrix transposed m) → Shows p other (tested_matrix transposed m)
      → f.bytes ≡ written_graph transposed net → g.bytes ≡ written_graph transposed other → HoldAlikeNetworks f g
