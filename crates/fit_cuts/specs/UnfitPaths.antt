-- Paths in the sides of a cut that are not fit.
use Rattle.std.specs.Prelude.{◌≡◌, ◌≢◌, ◌*ℤ◌, ℕ, pos}
use Rattle.cmr_base.specs.Matrix.{Matrix, entry, HasTernaryEntries}
use Rattle.cmr_base.specs.Separations.{HasNoTwoSeparation, Lines}
use Rattle.cuts.specs.LineCuts.{IsCut}
use Rattle.path_places.specs.PathPlaces.{HasNoCutPlace, HasNoPath, IsFit}
use Rattle.fit_cuts.specs.FitForms.{AreBothFit}

-- Four nonzeros at which two rows cross two columns have the product 1. If they do not, these lines are a violator.
abbrev pub HavePositiveSquares : Matrix → Type 0
HavePositiveSquares m = (i k c d : ℕ) → entry m i c ≢ pos 0 → entry m i d ≢ pos 0 → entry m k c ≢ pos 0 → entry m k d ≢ pos 0
    → (entry m i c *ℤ entry m i d) *ℤ (entry m k c *ℤ entry m k d) ≡ pos 1

-- without a two-separation, side one of a cut is fit or has a path
abbrev pub UnfitSidesHavePaths : Type 0
UnfitSidesHavePaths = (m : Matrix) (side : Lines) → HasTernaryEntries m → HavePositiveSquares m → HasNoTwoSeparation m → IsCut m side → ¬ (IsFit m side) → ¬ (HasNoPath m side)

-- without a two-separation, a cut has a position unless both sides are fit
abbrev pub CutsHavePlaces : Type 0
CutsHavePlaces = (m : Matrix) (side : Lines) → HasTernaryEntries m → HavePositiveSquares m → HasNoTwoSeparation m → IsCut m side → ¬ (AreBothFit m side) → ¬ (HasNoCutPlace m side)
