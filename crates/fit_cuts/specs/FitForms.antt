-- Cuts with one of the forms delta, Y and mixed.
use Rattle.std.specs.Prelude.{◌⊎◌, ◌↔◌}
use Rattle.cmr_base.specs.declared.separation.Connector.{Connector}
use Rattle.cmr_base.specs.declared.separation.Form.{Form}
use Rattle.cmr_base.specs.Matrix.{Matrix, HasTernaryEntries}
use Rattle.cmr_base.specs.Separations.{HasNoThreeSeparation, Lines, ThreeSeparates, opposite}
use Rattle.cuts.specs.LineCuts.{IsCut}
use Rattle.three_sep.specs.NumberedSeeds.{IsCrossing}
use Rattle.path_places.specs.PathPlaces.{IsFit}

-- both sides of a cut are fit
pub record AreBothFit (m : Matrix) (side : Lines) : Type 0 where
  pub one : IsFit m side
  pub two : IsFit m (opposite side)

-- a three-separation of the form delta, Y or mixed, whose side one is this side or the other side
pub record HasCrossingForm (m : Matrix) (side : Lines) : Type 0 where
  pub form : Form
  pub crossing : IsCrossing form
  pub first : Connector
  pub second : Connector
  pub separates : ThreeSeparates m side form first second ⊎ ThreeSeparates m (opposite side) form first second

-- a cut has one of these forms if and only if both sides are fit
abbrev pub CutsHaveForms : Type 0
CutsHaveForms = (m : Matrix) (side : Lines) → HasTernaryEntries m → IsCut m side → AreBothFit m side ↔ HasCrossingForm m side

-- a matrix without a three-separation has no cut with two fit sides
abbrev pub FitCutsSeparate : Type 0
FitCutsSeparate = (m : Matrix) (side : Lines) → HasTernaryEntries m → IsCut m side → AreBothFit m side → ¬ (HasNoThreeSeparation m)
