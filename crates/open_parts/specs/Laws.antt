-- Laws of decompositions with pivots whose open parts are tried once more.
use Rattle.std.specs.Prelude.{◌≡◌, ◌<◌, ◌≤◌, ◌↔◌, ℕ, Some, None}
use Rattle.cmr_base.specs.declared.limits.TheConstants.{MAX_LINES}
use Rattle.cmr_base.specs.declared.line_set.LineSet.{LineSet}
use Rattle.cmr_base.specs.Matrix.{Matrix, height, entry, IsMatrix}
use Rattle.cmr_base.specs.Violator.{IsViolator}
use Rattle.tree_type.specs.DecompositionTrees.{Tree}
use Rattle.tree_type.specs.Invariant.{AreLines, AreLinesOf, IsTreeFor}
use Rattle.tree_type.specs.Soundness.{IsSoundTree, part}
use Rattle.tree_type.specs.Verdicts.{Open, verdict_of}
use Rattle.decomp_tree.specs.PlainTrees.{plain_tree}
use Rattle.decomp_tree.specs.Shapes.{IsFirstCase, IsLeft, IsShape}
use Rattle.decomp_tree.specs.OpenEnds.{HasEnd}
use Rattle.decomp_tree.specs.PivotedLaws.{KeepsAnswer}
use Rattle.open_parts.specs.Rests.{IsFoundInRests}
use Rattle.open_parts.specs.TriedShapes.{IsTriedWith}

-- no node is deeper than 2,000
abbrev pub TriedShapesAreTrees : Type 0
TriedShapesAreTrees = (limit pivots : ℕ) (m : Matrix) (tree : Tree) → IsMatrix m → IsTriedWith limit pivots m tree → IsTreeFor (height m) m.width tree

-- they keep all rules
abbrev pub TriedShapesAreSound : Type 0
TriedShapesAreSound =
    (limit pivots : ℕ) (m : Matrix) (tree : Tree) → limit ≤ MAX_LINES → IsMatrix m → IsTriedWith limit pivots m tree → IsSoundTree m (height m) m.width tree

-- two of them differ at most in their networks
abbrev pub OneTriedShape : Type 0
OneTriedShape =
    (limit pivots : ℕ) (m : Matrix) (tree other : Tree) → IsTriedWith limit pivots m tree → IsTriedWith limit pivots m other → plain_tree tree ≡ plain_tree other

-- if no pivots are allowed, they are exactly the decompositions without pivots
abbrev pub NoPivotsTryNothing : Type 0
NoPivotsTryNothing = (limit : ℕ) (m : Matrix) (tree : Tree) → IsTriedWith limit 0 m tree ↔ IsShape limit m tree

-- The lines that their verdict leaves open reach the last case, as without pivots. If pivots are allowed, no rest that was tried is a no,
-- and the pivots have an end.
abbrev pub OpenLinesAreTried : Type 0
OpenLinesAreTried =
    (limit pivots : ℕ) (m : Matrix) (tree : Tree) (lines : LineSet) → IsMatrix m → IsTriedWith limit pivots m tree → verdict_of tree ≡ Open lines
    → AreLines m lines × IsFirstCase limit (part m lines) IsLeft × (0 < pivots → IsFoundInRests limit m lines None) × HasEnd limit pivots m lines

-- a fault that is found in the rests of some lines is a violator of the matrix on some of these lines
abbrev pub FoundFaultsAreViolators : Type 0
FoundFaultsAreViolators =
    (limit : ℕ) (m : Matrix) (lines fault : LineSet) → limit ≤ MAX_LINES → IsMatrix m → AreLines m lines → IsFoundInRests limit m lines (Some fault)
    → AreLinesOf fault lines × IsViolator (entry m) fault.rows fault.columns

-- more pivots lose no answer
abbrev pub MorePivotsKeepTriedAnswers : Type 0
MorePivotsKeepTriedAnswers =
    (limit pivots more : ℕ) (m : Matrix) (tree other : Tree) → limit ≤ MAX_LINES → IsMatrix m → pivots ≤ more → IsTriedWith limit pivots m tree → IsTriedWith limit more m other
    → KeepsAnswer (verdict_of tree) tree other
