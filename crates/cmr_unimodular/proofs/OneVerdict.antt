-- All decompositions of a matrix have the same verdict.
use Rattle.std.proofs.Common.{◌≡◌, ◌∙◌, ap, sym}
use Rattle.cmr_base.specs.Matrix.{Matrix}
use Rattle.tree_type.specs.DecompositionTrees.{tree_of}
use Rattle.open_parts.proofs.TriedRoots.{one_tried_verdict}
use Rattle.cmr_front.specs.Report.{Report}
use Rattle.cmr_front.specs.Status.{answer_status}
use Rattle.cmr_evidence.specs.VerdictWords.{answer_of}
use Rattle.cmr_unimodular.specs.Verdict.{Decides, VerdictOrder, verdict_in}
use Rattle.cmr_front.proofs.Statuses.{status_of}

pub one_verdict : (o : VerdictOrder) (m : Matrix) (r s : Report) → Decides o m r → Decides o m s → r.status ≡ s.status
one_verdict o m r s a b =
    let same : verdict_in a.tree ≡ verdict_in b.tree = one_tried_verdict o.budget o.pivots m (tree_of a.tree.root) (tree_of b.tree.root) a.decomposition.shape b.decomposition.shape in
    status_of r _ a.report_is ∙ ap (λ v. answer_status (answer_of v)) same ∙ sym (status_of s _ b.report_is)
