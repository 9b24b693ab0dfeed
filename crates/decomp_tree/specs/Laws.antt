-- Laws of decompositions.
use Rattle.std.specs.Prelude.{◌≤◌, ℕ}
use Rattle.cmr_base.specs.declared.limits.TheConstants.{MAX_LINES}
use Rattle.cmr_base.specs.Matrix.{Matrix, height, IsMatrix}
use Rattle.tree_type.specs.DecompositionTrees.{Tree}
use Rattle.tree_type.specs.Invariant.{IsTreeFor}
use Rattle.tree_type.specs.Soundness.{IsSoundTree}
use Rattle.decomp_tree.specs.Shapes.{IsShape}

-- a decomposition is a tree: its nodes have lines of their parents and fit them, and none is deeper than 2,000
abbrev pub ShapesAreTrees : Type 0
ShapesAreTrees = (limit : ℕ) (m : Matrix) (tree : Tree) → IsMatrix m → IsShape limit m tree → IsTreeFor (height m) m.width tree

-- a decomposition keeps all rules
abbrev pub ShapesAreSound : Type 0
ShapesAreSound = (limit : ℕ) → limit ≤ MAX_LINES → (m : Matrix) → IsMatrix m → (tree : Tree) → IsShape limit m tree → IsSoundTree m (height m) m.width tree
