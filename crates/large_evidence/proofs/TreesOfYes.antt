-- A tree that the checker does not refuse.
use Rattle.std.proofs.Common.{◌≡◌, ◌∙◌, refl, ap, subst, not, Bool, true, Option, Some, None}
use Rattle.std.specs.Prelude.{IsTrue, is_some}
use Rattle.cmr_base.specs.Matrix.{Matrix, IsMatrix}
use Rattle.cmr_base.proofs.Booleans.{not_both}
use Rattle.cert_check.specs.Answers.{Answers}
use Rattle.tree_type.specs.declared.refusal.Refusal.{Refusal}
use Rattle.tree_type.specs.DecompositionTrees.{SizedTree, tree_of}
use Rattle.tree_type.specs.Invariant.{IsDecTree}
use Rattle.tree_type.specs.Soundness.{IsSound}
use Rattle.tree_type.specs.Verdicts.{Yes, verdict_of}
use Rattle.large_evidence.specs.LargeEvidence.{IsTreeOfYes}

pub tree_of_yes : (m checked : Matrix) (tree : SizedTree) (answer : Option Refusal) (none : Bool) → checked ≡ m → IsMatrix checked → IsDecTree tree → Answers checked tree answer
    → verdict_of (tree_of tree.root) ≡ Yes → is_some answer ≡ not none → IsTrue none → IsTreeOfYes m tree
tree_of_yes m checked tree None none same small shape sound said e t = record { small = subst IsMatrix same small; shape = shape; sound = subst (λ (m : Matrix). IsSound m tree) same sound; yes = said }
tree_of_yes m checked tree (Some refusal) none same small shape broken said e t = absurd (not_both true refl (e ∙ ap not t))
