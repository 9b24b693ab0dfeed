-- Each matrix has a decomposition. A decomposition is not made here: the laws say that no matrix is without one.
use Rattle.std.specs.Prelude.{ℕ}
use Rattle.cmr_base.specs.declared.line_set.LineSet.{LineSet}
use Rattle.cmr_base.specs.Matrix.{Matrix, IsMatrix}
use Rattle.tree_type.specs.DecompositionTrees.{Tree}
use Rattle.tree_type.specs.Invariant.{AreLines}
use Rattle.decomp_tree.specs.Shapes.{IsShapeOn}
use Rattle.decomp_tree.specs.PivotedShapes.{IsShapeWith}
use Rattle.open_parts.specs.TriedShapes.{IsTriedWith}

-- no submatrix is without a decomposition, for every budget of lines
abbrev pub SubmatricesHaveShapes : Type 0
SubmatricesHaveShapes = (limit : ℕ) (m : Matrix) (lines : LineSet) → IsMatrix m → AreLines m lines → ¬ ((tree : Tree) → ¬ (IsShapeOn limit m lines tree))

-- no matrix is without a decomposition, for every budget of lines and every number of pivots
abbrev pub MatricesHaveShapes : Type 0
MatricesHaveShapes = (limit pivots : ℕ) (m : Matrix) → IsMatrix m → ¬ ((tree : Tree) → ¬ (IsShapeWith limit pivots m tree))

-- no matrix is without a decomposition whose open parts are tried
abbrev pub MatricesHaveTriedShapes : Type 0
MatricesHaveTriedShapes = (limit pivots : ℕ) (m : Matrix) → IsMatrix m → ¬ ((tree : Tree) → ¬ (IsTriedWith limit pivots m tree))
