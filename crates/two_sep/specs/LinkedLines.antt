-- Lines of one label, which grow.
use Rattle.std.specs.Prelude.{◌≡◌, ℕ, ℤ, List, slice_index_or}
use Rattle.std.specs.List.{AllByRecursion}
use Rattle.cmr_base.specs.declared.line.Line.{Line}
use Rattle.cmr_base.specs.Matrix.{Matrix, height}
use Rattle.cmr_base.specs.Seeds.{IsLine, line_number}
use Rattle.line_growth.specs.declared.growing_set.GrowingSet.{GrowingSet}
use Rattle.line_growth.specs.GrowingSets.{IsGrowing, IsSizedFor}
use Rattle.two_sep.specs.declared.linked_lines.LinkedLines.{LinkedLines}

-- both sets have room for the lines of the matrix
pub record AreSizedFor (m : Matrix) (linked : LinkedLines) : Type 0 where
  pub of_row : IsSizedFor m linked.of_row
  pub of_column : IsSizedFor m linked.of_column

-- a line of the matrix with the label
pub record HasLabel (m : Matrix) (labels : List ℕ) (label : ℕ) (line : Line) : Type 0 where
  pub inside : IsLine (height m) m.width line
  pub same : slice_index_or labels (line_number (height m) line) 0 ≡ label

-- the set grows from lines with the label, by any rule
pub record GrowsFromLabel (m : Matrix) (labels : List ℕ) (label : ℕ) (set : GrowingSet) : Type 0 where
  pub start : List Line
  pub labelled : AllByRecursion (HasLabel m labels label) start
  pub grows : (upper lower : ℕ → ℕ → ℤ) → IsGrowing m upper lower start set
