use Rattle.std.specs.Prelude.{ℕ, List}
use Rattle.cmr_base.specs.Matrix.{Matrix}
use Rattle.cmr_base.specs.Violator.{IsLeastColumnSet}

-- the column set of least number that makes a violator with these rows exists
abbrev pub HasLeastColumnSet : Matrix → List ℕ → Type 0
HasLeastColumnSet m rows = (columns : List ℕ) × IsLeastColumnSet m rows columns
