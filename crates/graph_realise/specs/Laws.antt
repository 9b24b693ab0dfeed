-- Laws of graphic supports and network matrices.
use Rattle.std.specs.Prelude.{◌↔◌, ◌<◌}
use Rattle.cmr_base.specs.Cuts.{HasCuts, HasSignedCuts}
use Rattle.cmr_base.specs.Matrix.{Matrix, height, entry, IsTernary}
use Rattle.cmr_base.specs.Splits.{IsGraphicBySplitting}
use Rattle.cmr_base.specs.Trees.{support, HasGraphicSupport, IsNetworkMatrix}

-- the supports of the columns are paths in some tree if and only if the rows split graphically
abbrev pub GraphicSupportsSplit : Type 0
GraphicSupportsSplit = (m : Matrix) → IsTernary m → HasGraphicSupport m ↔ IsGraphicBySplitting m

-- the supports of the columns are paths in some tree if and only if the arcs have sides
abbrev pub GraphicSupportsHaveSides : Type 0
GraphicSupportsHaveSides = (m : Matrix) → IsTernary m → HasGraphicSupport m ↔ HasCuts (support m) (λ row. row < height m)

-- the same for network matrices, whose arcs have directions
abbrev pub NetworkMatricesHaveSides : Type 0
NetworkMatricesHaveSides = (m : Matrix) → IsTernary m → IsNetworkMatrix m ↔ HasSignedCuts (entry m) (λ row. row < height m)
