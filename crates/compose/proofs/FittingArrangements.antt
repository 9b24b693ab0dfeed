-- The lines of the two matrices of a separation fit the matrix.
use Rattle.std.proofs.Common.{Bool, true, false}
use Rattle.cmr_base.specs.declared.separation.Connector.{Connector}
use Rattle.cmr_base.specs.declared.separation.Form.{Form}
use Rattle.cmr_base.specs.declared.separation.Form.TheVariants.{Delta, YForm, Mixed, Concentrated}
use Rattle.cmr_base.specs.declared.separation.Two.{Two}
use Rattle.cmr_base.specs.declared.separation.Three.{Three}
use Rattle.cmr_base.specs.Matrix.{Matrix, height, entry, HasTernaryEntries}
use Rattle.cmr_base.specs.LineSets.{first_lines}
use Rattle.cmr_base.specs.Separations.{Lines, listed, connector_lines, AreOn, IsThreeSeparation}
use Rattle.cmr_base.specs.declared.line_set.LineSet.{LineSet}
use Rattle.cmr_base.proofs.ListedLines.{first_lines_contain}
use Rattle.cmr_base.proofs.SignEntries.{sign_of_entry}
use Rattle.compose.specs.Arrangements.{sides_of, HasSignedLines, HasConnectorLines, two_arrangement, three_lines, three_arrangement}
use Rattle.compose.specs.RoundTrips.{IsTwoOf, IsThreeOf}
use Rattle.compose.proofs.SideLines.{to_one, to_two}
use Rattle.compose.proofs.FittingLines.{two_fits, corner_fits, core_fits}
use Rattle.compose.proofs.RoundTrips.{cornered, cored}

pub two_arrangement_fits : (m : Matrix) (two : Two) → HasTernaryEntries m → IsTwoOf m two → HasSignedLines m (two_arrangement m two)
two_arrangement_fits m two ternary sep = two_fits m two.side two.row two.column
    (to_two two.side.rows (first_lines (height m)) two.row sep.two.0.0 sep.two.0.1)
    (to_one two.side.columns (first_lines m.width) two.column sep.one.0.0 sep.one.0.1)
    (sign_of_entry (entry m two.row two.column) (ternary two.row two.column) sep.nonzero)

fits_by_form : (m : Matrix) (side : LineSet) (form : Form) (f g : Connector) → HasTernaryEntries m
    → IsThreeSeparation (entry m) (first_lines (height m)) (first_lines m.width) (listed side.rows side.columns) form f g → HasSignedLines m (three_lines (entry m) form (sides_of m side) f g)
fits_by_form m side Delta f g ternary sep =
    corner_fits m side true true f g (cornered m side ternary f g true true sep.one sep.two sep.connectors.first_corner sep.connectors.second_corner sep.connectors.tied sep.blocks)
fits_by_form m side YForm f g ternary sep =
    corner_fits m side false false f g (cornered m side ternary f g false false sep.one sep.two sep.connectors.first_corner sep.connectors.second_corner sep.connectors.tied sep.blocks)
fits_by_form m side Mixed f g ternary sep =
    corner_fits m side true false f g (cornered m side ternary f g true false sep.one sep.two sep.connectors.first_corner sep.connectors.second_corner sep.connectors.tied sep.blocks)
fits_by_form m side Concentrated f g ternary sep = core_fits m side f g (cored m side ternary f g sep)

pub three_arrangement_fits : (m : Matrix) (three : Three) → HasTernaryEntries m → IsThreeOf m three → HasSignedLines m (three_arrangement m three)
three_arrangement_fits m three ternary is = fits_by_form m three.side three.form three.first three.second ternary is.separation

-- the lines of a connector are lines of the matrix
pub connector_there : (m : Matrix) (side : Lines) (one flat : Bool) (f : Connector)
    → AreOn (first_lines (height m)) (first_lines m.width) side one (connector_lines flat f) → HasConnectorLines flat m f
connector_there m side one true f on = (first_lines_contain (height m) f.row on.0.0, first_lines_contain m.width f.column on.1.0.0, first_lines_contain m.width f.other on.1.1.0.0)
connector_there m side one false f on = (first_lines_contain (height m) f.row on.0.0, first_lines_contain m.width f.column on.1.0.0, first_lines_contain (height m) f.other on.1.1.0.0)
