-- The signs of a matrix without violators are unique up to the signs of lines.
use Rattle.cmr_base.specs.Matrix.{Matrix, entry, IsTernary}
use Rattle.cmr_base.specs.Supports.{HaveOneSupport, AgreeUpToSigns}
use Rattle.cmr_base.specs.CyclePlaces.{HasNoCycleFault}
use Rattle.cmr_base.specs.Violator.{HasNoViolator}

-- two matrices with one support and without violators agree after some rows and columns are multiplied by -1
abbrev pub SignsAreUnique : Type 0
SignsAreUnique = (m n : Matrix) → IsTernary m → IsTernary n → HaveOneSupport m n → HasNoViolator m → HasNoViolator n → AgreeUpToSigns (entry m) (entry n)

-- a matrix without cycle fault has no violator if another matrix with its support has none
abbrev pub FaultFreeHasNoViolator : Type 0
FaultFreeHasNoViolator = (m n : Matrix) → IsTernary m → IsTernary n → HaveOneSupport m n → HasNoCycleFault (entry m) → HasNoViolator n → HasNoViolator m
