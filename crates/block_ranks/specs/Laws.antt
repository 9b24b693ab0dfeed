-- Without a pivot that gives a cut there is no three-separation.
use Rattle.std.specs.Prelude.{◌≡◌, true, false}
use Rattle.cmr_base.specs.declared.line.Line.{Line}
use Rattle.cmr_base.specs.Components.{IsApart}
use Rattle.cmr_base.specs.Matrix.{Matrix, IsMatrix, height, entry}
use Rattle.cmr_base.specs.Seeds.{IsLine}
use Rattle.cmr_base.specs.Separations.{Lines}
use Rattle.block_ranks.specs.BlockRanks.{HasNoRankSeparation}
use Rattle.block_ranks.specs.PlacesBeforeCuts.{HasNoPlaceBeforeCut}

-- no set of lines is apart from all other lines, except the empty set and the set of all lines
abbrev pub HasNoApartSet : Matrix → Type 0
HasNoApartSet m =
    (S : Lines) → IsApart (height m) m.width (entry m) S → (x y : Line) → IsLine (height m) m.width x → IsLine (height m) m.width y → S x ≡ true → ¬ (S y ≡ false)

-- a connected matrix without a nonzero whose pivot has a 2, a -2 or a cut has no three-separation
abbrev pub NoPlaceMeansNoSeparation : Type 0
NoPlaceMeansNoSeparation = (m : Matrix) → IsMatrix m → HasNoApartSet m → HasNoPlaceBeforeCut m → HasNoRankSeparation m
