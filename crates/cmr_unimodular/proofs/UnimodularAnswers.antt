-- The meaning of the verdict of a decomposition for the matrix.
use Rattle.std.proofs.Common.{◌≡◌, ℕ, subst, refl, arith}
use Rattle.cmr_base.specs.Matrix.{Matrix, IsMatrix}
use Rattle.cmr_base.proofs.WholeMatrices.{is_ternary}
use Rattle.tree_type.specs.DecompositionTrees.{SizedTree}
use Rattle.tree_type.specs.Verdicts as verdicts
use Rattle.tree_type.specs.Verdicts.{Verdict}
use Rattle.cmr_front.specs.declared.status.Answer.{Answer}
use Rattle.cmr_front.specs.declared.status.Answer.TheVariants.{Yes, No, Undecided, Refused}
use Rattle.cmr_front.specs.Status.{answer_status}
use Rattle.cmr_unimodular.specs.Tu.{UnimodularMeans}
use Rattle.cmr_evidence.specs.VerdictWords.{answer_of}
use Rattle.cmr_unimodular.specs.Verdict.{IsDecomposition, IsRightVerdict, verdict_in}
use Rattle.cmr_evidence.proofs.Unimodular.{not_unimodular, unimodular}

module _ (budget pivots : ℕ) (m : Matrix) (is_matrix : IsMatrix m) (tree : SizedTree) (decomposition : IsDecomposition budget pivots m tree)
    (right : IsRightVerdict budget pivots m (verdict_in tree)) where
  by_verdict : (v : Verdict) → verdict_in tree ≡ v → (answer : Answer) → answer_status (answer_of v) ≡ answer_status answer → UnimodularMeans budget pivots m answer
  by_verdict verdicts.Yes e Yes is = (tree, decomposition, e, unimodular m (subst (IsRightVerdict budget pivots m) e right).unimodular)
  by_verdict verdicts.Yes e No is = absurd (omega arith)
  by_verdict verdicts.Yes e Undecided is = absurd (omega arith)
  by_verdict verdicts.Yes e Refused is = absurd (omega arith)
  by_verdict (verdicts.No fault) e Yes is = absurd (omega arith)
  by_verdict (verdicts.No fault) e No is = (tree, decomposition, fault, e, not_unimodular m fault (is_ternary m is_matrix) (subst (IsRightVerdict budget pivots m) e right))
  by_verdict (verdicts.No fault) e Undecided is = absurd (omega arith)
  by_verdict (verdicts.No fault) e Refused is = absurd (omega arith)
  by_verdict (verdicts.Open lines) e Yes is = absurd (omega arith)
  by_verdict (verdicts.Open lines) e No is = absurd (omega arith)
  by_verdict (verdicts.Open lines) e Undecided is = (tree, decomposition, lines, e, subst (IsRightVerdict budget pivots m) e right)
  by_verdict (verdicts.Open lines) e Refused is = absurd (omega arith)

  pub unimodular_means : (answer : Answer) → answer_status (answer_of (verdict_in tree)) ≡ answer_status answer → UnimodularMeans budget pivots m answer
  unimodular_means answer is = by_verdict (verdict_in tree) refl answer is
