-- Connected parts, found one after another.
use Rattle.std.specs.Prelude.{◌≡◌, ◌<◌, ℕ, true, List, length}
use Rattle.cmr_base.specs.declared.line.Line.{Line}
use Rattle.cmr_base.specs.declared.line_set.LineSet.{LineSet}
use Rattle.cmr_base.specs.Matrix.{Matrix, height, entry}
use Rattle.cmr_base.specs.LineSets.{IsRowSet, IsColumnSet}
use Rattle.cmr_base.specs.Reductions.{HasLine}
use Rattle.cmr_base.specs.Separations.{Lines, listed}
use Rattle.cmr_base.specs.Seeds.{IsLine, line_number}
use Rattle.cmr_base.specs.Components.{IsComponent, part_at, first_number}
use Rattle.cmr_base.specs.LineMasks.{IsMaskOf, as_set}
use Rattle.two_sep.specs.declared.parts.FoundParts.{FoundParts}

abbrev pub HasPartLine : List LineSet → ℕ → Line → Type 0
HasPartLine parts a line = HasLine (part_at parts a).rows (part_at parts a).columns line

-- the parts of the lines with numbers below `number`; their lines are the lines seen
pub record ArePartsFound (m : Matrix) (parts : List LineSet) (seen : Lines) (number : ℕ) : Type 0 where
  pub row_sets : (a : ℕ) → a < length parts → IsRowSet m (part_at parts a).rows
  pub column_sets : (a : ℕ) → a < length parts → IsColumnSet m (part_at parts a).columns
  pub components : (a : ℕ) → a < length parts → IsComponent (height m) m.width (entry m) (listed (part_at parts a).rows (part_at parts a).columns)
  pub seen_in : (line : Line) → IsLine (height m) m.width line → seen line ≡ true → (a : ℕ) × (a < length parts) × HasPartLine parts a line
  pub in_seen : (a : ℕ) (line : Line) → a < length parts → HasPartLine parts a line → seen line ≡ true
  pub passed : (line : Line) → IsLine (height m) m.width line → line_number (height m) line < number → seen line ≡ true
  pub once : (a b : ℕ) (line : Line) → a < length parts → b < length parts → HasPartLine parts a line → HasPartLine parts b line → a ≡ b
  pub ordered : (a b : ℕ) → a < b → b < length parts → first_number (height m) (part_at parts a) < first_number (height m) (part_at parts b)
  pub early : (a : ℕ) → a < length parts → first_number (height m) (part_at parts a) < number

-- the parts of the lines with numbers below `number` are found
pub record HasFound (m : Matrix) (number : ℕ) (found : FoundParts) : Type 0 where
  pub size : IsMaskOf m found.lines
  pub are : ArePartsFound m found.parts (as_set found.lines) number
