-- Laws of decompositions that make pivots if nothing else decides.
use Rattle.std.specs.Prelude.{◌≡◌, ◌≤◌, ◌↔◌, ℕ, Some}
use Rattle.cmr_base.specs.declared.limits.TheConstants.{MAX_LINES}
use Rattle.cmr_base.specs.declared.line_set.LineSet.{LineSet}
use Rattle.cmr_base.specs.Matrix.{Matrix, height, IsMatrix}
use Rattle.tree_type.specs.DecompositionTrees.{Tree}
use Rattle.tree_type.specs.Invariant.{AreLines, IsTreeFor}
use Rattle.tree_type.specs.Soundness.{IsSoundTree, part}
use Rattle.tree_type.specs.Verdicts.{Verdict, Yes, No, Open, first_in, open_at, verdict_of}
use Rattle.decomp_tree.specs.PlainTrees.{plain_tree}
use Rattle.decomp_tree.specs.Shapes.{IsFirstCase, IsLeft, IsShape}
use Rattle.decomp_tree.specs.OpenEnds.{HasEnd}
use Rattle.decomp_tree.specs.PivotedShapes.{IsShapeWith}

-- no node is deeper than 2,000, with any number of pivots
abbrev pub PivotedShapesAreTrees : Type 0
PivotedShapesAreTrees = (limit pivots : ℕ) (m : Matrix) (tree : Tree) → IsMatrix m → IsShapeWith limit pivots m tree → IsTreeFor (height m) m.width tree

-- they keep all rules
abbrev pub PivotedShapesAreSound : Type 0
PivotedShapesAreSound =
    (limit pivots : ℕ) (m : Matrix) (tree : Tree) → limit ≤ MAX_LINES → IsMatrix m → IsShapeWith limit pivots m tree → IsSoundTree m (height m) m.width tree

-- two of them differ at most in their networks
abbrev pub OnePivotedShape : Type 0
OnePivotedShape =
    (limit pivots : ℕ) (m : Matrix) (tree other : Tree) → IsShapeWith limit pivots m tree → IsShapeWith limit pivots m other → plain_tree tree ≡ plain_tree other

-- if no pivot may be made, they are exactly the decompositions without pivots
abbrev pub NoPivotsChangeNothing : Type 0
NoPivotsChangeNothing = (limit : ℕ) (m : Matrix) (tree : Tree) → IsShapeWith limit 0 m tree ↔ IsShape limit m tree

-- the lines that they leave open reach the last case, as without pivots
abbrev pub OpenLinesAreLeft : Type 0
OpenLinesAreLeft =
    (limit pivots : ℕ) (m : Matrix) (tree : Tree) (lines : LineSet) → IsMatrix m → IsShapeWith limit pivots m tree → first_in open_at tree ≡ Some lines
    → AreLines m lines × IsFirstCase limit (part m lines) IsLeft

-- from the first lines that they leave open, the pivots have an end
abbrev pub OpenLinesEnd : Type 0
OpenLinesEnd = (limit pivots : ℕ) (m : Matrix) (tree : Tree) (lines : LineSet) → IsMatrix m → IsShapeWith limit pivots m tree → first_in open_at tree ≡ Some lines → HasEnd limit pivots m lines

-- Another decomposition keeps the answer of a decomposition: a yes by the same tree, except for its networks, and a no by a no, which may
-- name another fault.
abbrev pub KeepsAnswer : Verdict → Tree → Tree → Type 0
KeepsAnswer Yes tree other = plain_tree tree ≡ plain_tree other
KeepsAnswer (No fault) tree other = (named : LineSet) × (verdict_of other ≡ No named)
KeepsAnswer (Open left) tree other = Unit {0}

-- more pivots lose no answer
abbrev pub MorePivotsKeepAnswers : Type 0
MorePivotsKeepAnswers =
    (limit pivots more : ℕ) (m : Matrix) (tree other : Tree) → pivots ≤ more → IsShapeWith limit pivots m tree → IsShapeWith limit more m other → KeepsAnswer (verdict_of tree) tree other
