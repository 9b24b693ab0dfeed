-- Laws of signings and violators.
use Rattle.std.specs.Prelude.{◌↔◌, ℕ, List}
use Rattle.cmr_base.specs.Matrix.{Matrix, entry, transposed, IsTernary}
use Rattle.cmr_base.specs.LineSets.{IsColumnSet}
use Rattle.cmr_base.specs.Signing.{IsTotallyUnimodular, HasNoSigning}
use Rattle.cmr_base.specs.Violator.{IsViolator, HasNoViolator}

-- each set of rows has a signing if and only if no submatrix is a violator
abbrev pub CamionEquivalence : Type 0
CamionEquivalence = (m : Matrix) → IsTernary m → IsTotallyUnimodular m ↔ HasNoViolator m

-- the rows of a violator have no signing
abbrev pub ViolatorsHaveNoSigning : Type 0
ViolatorsHaveNoSigning = (m : Matrix) (rows columns : List ℕ) → IsColumnSet m columns → IsViolator (entry m) rows columns → HasNoSigning m rows

-- the rows have signings if and only if the columns have
abbrev pub TransposesAreUnimodular : Type 0
TransposesAreUnimodular = (m : Matrix) → IsTernary m → IsTotallyUnimodular m ↔ IsTotallyUnimodular (transposed m)
