-- Laws of the connected parts of cores.
use Rattle.std.specs.Prelude.{◌≡◌, ◌<◌, ◌↔◌, ℕ, List, length}
use Rattle.cmr_base.specs.declared.line_set.LineSet.{LineSet}
use Rattle.cmr_base.specs.Matrix.{Matrix, IsTernary}
use Rattle.cmr_base.specs.LineSets.{submatrix}
use Rattle.cmr_base.specs.Components.{part_at}
use Rattle.cmr_base.specs.Violator.{HasNoViolator}
use Rattle.core_parts.specs.CoreParts.{AreCoreParts}

-- a matrix has one list of connected parts of its core
abbrev pub OneListOfParts : Type 0
OneListOfParts = (m : Matrix) (parts others : List LineSet) → AreCoreParts m parts → AreCoreParts m others → parts ≡ others

-- a matrix has a violator if and only if one of these parts has one
abbrev pub CorePartsDecide : Type 0
CorePartsDecide =
    (m : Matrix) (parts : List LineSet) → IsTernary m → AreCoreParts m parts
    → HasNoViolator m ↔ ((a : ℕ) → a < length parts → HasNoViolator (submatrix m (part_at parts a).rows (part_at parts a).columns))
