use Rattle.std.proofs.Common.{rules, subst, true, length, replicate}
use Rattle.std.proofs.lemmas.Result.{IfOk-weaker}
use Rattle.std.specs.List.{AllByRecursion}
use Rattle.cmr_base.specs.Matrix.{entry}
use Rattle.sparse_matrix.specs.SparseRows.{matrix_of_runs, sparse_entry}
use Rattle.large_evidence.specs.LargeEvidence.{HasReasonIn}
use Rattle.large_evidence.specs.LineDivisions.{AreDividedParts, sets_of}
use Rattle.large_evidence.proofs.CheckedEvidence.{checked_is_accepted, checked_is_proved, removals_if_found}
use Rattle.large_evidence.proofs.checker.accepts.Goals as goal

pub returns-clause-accepted : goal.returns-clause-accepted
returns-clause-accepted c =
    let matrix = c.args.matrix.now in
    let parts = c.args.evidence.now.parts.items in
    let left = c.in-Some.left in
    let removals = removals_if_found (sparse_entry matrix) (replicate (length matrix.runs) true) (replicate matrix.width true) c.deref.result.now c.args.evidence.now.steps.items
    c.in_ok-left.field-0 left c.deref.ensures.value c.in-Some.is c.in_ok-left.ensures.left in
    let divided : AreDividedParts (entry (matrix_of_runs matrix)) left.rows.items left.columns.items (sets_of parts) = search rules in
    IfOk-weaker c.have_reasons.result _ _ (λ yes reasons t. checked_is_accepted matrix c.rows-height.ensures.shape c.args.evidence.now left.rows.items left.columns.items removals divided
    (subst (AllByRecursion (HasReasonIn (matrix_of_runs matrix))) c.deref-7.ensures.value (reasons t))) c.have_reasons.ensures

pub returns-clause-proved : goal.returns-clause-proved
returns-clause-proved c =
    let matrix = c.args.matrix.now in
    let parts = c.args.evidence.now.parts.items in
    let left = c.in-Some.left in
    let removals = removals_if_found (sparse_entry matrix) (replicate (length matrix.runs) true) (replicate matrix.width true) c.deref.result.now c.args.evidence.now.steps.items
    c.in_ok-left.field-0 left c.deref.ensures.value c.in-Some.is c.in_ok-left.ensures.left in
    let divided : AreDividedParts (entry (matrix_of_runs matrix)) left.rows.items left.columns.items (sets_of parts) = search rules in
    IfOk-weaker c.have_reasons.result _ _ (λ yes reasons t. checked_is_proved matrix c.rows-height.ensures.shape c.args.evidence.now left.rows.items left.columns.items removals divided
    (subst (AllByRecursion (HasReasonIn (matrix_of_runs matrix))) c.deref-7.ensures.value (reasons t))) c.have_reasons.ensures
