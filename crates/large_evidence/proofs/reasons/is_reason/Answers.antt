use Rattle.std.proofs.Common.{◌≡◌, sym, subst, Bool, List, length}
use Rattle.sparse_matrix.specs.SparseRows.{matrix_of_runs}
use Rattle.two_nonzeros.specs.Cancelling.{AreSplitBy}
use Rattle.large_evidence.specs.LargeEvidence.{IsReasonFor}
use Rattle.large_evidence.proofs.SignedLines.{signs_of_columns}
use Rattle.large_evidence.proofs.reasons.is_reason.Goals as goal

pub returns-in-Rows : goal.returns-in-Rows
returns-in-Rows c =
    let part = c.args.part.now in
    let columns = c.in_ok-columns.columns in
    λ yes. subst (IsReasonFor (matrix_of_runs part)) (sym c.in-Rows.is)
    (signs_of_columns part columns c.rows-height.ensures.shape c.rows-width.ensures.shape c.in_ok-columns.ensures c.in-Rows.minus.items
    (subst (λ (minus : List Bool). (length minus ≡ length columns.runs) × AreSplitBy minus columns) c.deref-in-Rows.ensures.value (c.cancel_columns-in-Rows.ensures yes)))
