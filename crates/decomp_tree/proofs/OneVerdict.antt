-- All decompositions of a matrix have one verdict.
use Rattle.std.proofs.Common.{◌≡◌, ◌∙◌, ℕ, ap, sym}
use Rattle.cmr_base.specs.Matrix.{Matrix, height}
use Rattle.tree_type.specs.Invariant.{IsTreeFor}
use Rattle.tree_type.specs.DecompositionTrees.{Tree}
use Rattle.tree_type.specs.Verdicts.{verdict_of}
use Rattle.decomp_tree.specs.PivotedShapes.{IsShapeWith}
use Rattle.decomp_tree.proofs.OnePivoted.{one_pivoted_shape}
use Rattle.decomp_tree.proofs.PlainVerdicts.{verdict_plain}

pub one_verdict : (budget pivots : ℕ) (m : Matrix) (tree other : Tree) → IsTreeFor (height m) m.width tree → IsTreeFor (height m) m.width other
    → IsShapeWith budget pivots m tree → IsShapeWith budget pivots m other → verdict_of tree ≡ verdict_of other
one_verdict budget pivots m tree other is is' shape shape' = verdict_plain tree ∙ ap verdict_of (one_pivoted_shape budget pivots m tree other shape shape') ∙ sym (verdict_plain other)
