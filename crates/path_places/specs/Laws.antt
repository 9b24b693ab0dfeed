-- The laws of positions along shortest paths.
use Rattle.std.specs.Prelude.{◌≡◌, ℕ}
use Rattle.cmr_base.specs.Matrix.{Matrix}
use Rattle.cmr_base.specs.Separations.{Lines}
use Rattle.path_places.specs.PathPlaces.{IsCutPlace, IsPathPlace}

-- a side has one such position at most, and so has a cut
abbrev pub PathPlacesAreOne : Type 0
PathPlacesAreOne = (m : Matrix) (side : Lines) (row column i j : ℕ) → IsPathPlace m side row column → IsPathPlace m side i j → (row ≡ i) × (column ≡ j)

abbrev pub CutPlacesAreOne : Type 0
CutPlacesAreOne = (m : Matrix) (side : Lines) (row column i j : ℕ) → IsCutPlace m side row column → IsCutPlace m side i j → (row ≡ i) × (column ≡ j)
