-- Network matrices, characterised by their supports and signs.
use Rattle.std.specs.Prelude.{◌↔◌}
use Rattle.cmr_base.specs.CyclePlaces.{HasNoCycleFault}
use Rattle.cmr_base.specs.Matrix.{Matrix, entry, transposed, IsTernary}
use Rattle.cmr_base.specs.Trees.{HasGraphicSupport, IsConetworkMatrix, IsNetworkMatrix}

-- a matrix is a network matrix if and only if the supports of the columns are paths in some tree and no cycle has the sum 2
-- modulo 4
abbrev pub NetworkMatricesAreSignedGraphic : Type 0
NetworkMatricesAreSignedGraphic = (m : Matrix) → IsTernary m → IsNetworkMatrix m ↔ (HasGraphicSupport m × HasNoCycleFault (entry m))

-- a matrix is a transposed network matrix if and only if the supports of the rows are paths in some tree and no cycle has the
-- sum 2 modulo 4
abbrev pub ConetworkMatricesAreSignedCographic : Type 0
ConetworkMatricesAreSignedCographic = (m : Matrix) → IsTernary m → IsConetworkMatrix m ↔ (HasGraphicSupport (transposed m) × HasNoCycleFault (entry m))
