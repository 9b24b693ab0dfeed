-- R10 matrices and violators.
use Rattle.cmr_base.specs.Matrix.{Matrix, entry, IsTernary}
use Rattle.cmr_base.specs.CyclePlaces.{HasNoCycleFault}
use Rattle.cmr_base.specs.Violator.{HasNoViolator}
use Rattle.cmr_base.specs.R10.{IsR10}

-- an R10 matrix without cycle fault has no violator
abbrev pub FaultFreeR10HasNoViolator : Type 0
FaultFreeR10HasNoViolator = (m : Matrix) → IsTernary m → IsR10 m → HasNoCycleFault (entry m) → HasNoViolator m
