-- The meaning of the answers of `compose` for the two matrices.
use Rattle.std.proofs.Common.{◌≡◌, ◌∙◌, ℕ, List, false, ap, sym, refl, arith, Ok}
use Rattle.std.proofs.lemmas.Bool.{false≢true}
use Rattle.cmr_base.specs.Matrix.{Matrix, HasTernaryEntries, IsMatrix}
use Rattle.text_fields.specs.TextWords.{text_of}
use Rattle.matrix_text.specs.CanonicalMatrices.{dense_text}
use Rattle.matrix_text.specs.Dense.{dense}
use Rattle.matrix_text.proofs.DenseAgain.{dense_again}
use Rattle.compose.specs.declared.sum_kind.SumKind.{SumKind}
use Rattle.compose.specs.declared.sum_kind.SumKind.TheVariants as kinds
use Rattle.compose.specs.SumKinds.{HaveSum, IsCauseOf, sum_of}
use Rattle.sum_ops.specs.declared.error.SumError.TheVariants as errors
use Rattle.cmr_front.specs.declared.status.Answer.{Answer}
use Rattle.cmr_front.specs.declared.status.Answer.TheVariants.{Yes, No, Undecided, Refused}
use Rattle.cmr_front.specs.declared.status.Failure.TheVariants.{Text}
use Rattle.cmr_front.specs.declared.outcome.FaultKind.TheVariants as faults
use Rattle.cmr_front.specs.MatrixText.{matrix_in}
use Rattle.cmr_front.specs.Report.{Report}
use Rattle.cmr_front.specs.Status.{answer_status, failure_status}
use Rattle.cmr_front.specs.Texts.{ReportsText}
use Rattle.cmr_front.specs.Tool.{HasOneReport, IsFaultOfFile, IsLawful}
use Rattle.cmr_front.proofs.Statuses.{IsAnswered, status_of}
use Rattle.cmr_front.proofs.Texts.{answered, one_report_of_pair, one_report_of_text, pair_lawful, fault_of_last, fault_of_text}
use Rattle.cmr_reach.specs.declared.tools.compose_tool.Obstacle.{Obstacle}
use Rattle.cmr_reach.specs.declared.tools.compose_tool.Obstacle.TheVariants.{TooManyRows, TooManyColumns, BadConnector, BadEntry}
use Rattle.cmr_reach.specs.Compose.{ComposeDecides, ComposeMeans, ComposeReports, ComposeSays, IsComposed, IsObstacle, composed, refused, compose_files, compose_tool, obstacle_report, ComposeOrder}

-- ---- one report

module _ (kind : SumKind) (first second : Matrix) where
  -- if there is a sum, there is no obstacle
  unhindered : (obstacle : Obstacle) → IsComposed kind first second → IsObstacle kind first second obstacle → ⊥
  unhindered TooManyRows is not = not is.rows
  unhindered TooManyColumns is not = not.1 is.columns
  unhindered BadConnector is not = not.2 is.connected
  unhindered BadEntry is not = not.3 is.is_matrix.small

  one_obstacle : (obstacle other : Obstacle) → IsObstacle kind first second obstacle → IsObstacle kind first second other → obstacle ≡ other
  one_obstacle TooManyRows TooManyRows is not = refl
  one_obstacle TooManyRows TooManyColumns is not = absurd (is not.0)
  one_obstacle TooManyRows BadConnector is not = absurd (is not.0)
  one_obstacle TooManyRows BadEntry is not = absurd (is not.0)
  one_obstacle TooManyColumns TooManyRows is not = absurd (not is.0)
  one_obstacle TooManyColumns TooManyColumns is not = refl
  one_obstacle TooManyColumns BadConnector is not = absurd (is.1 not.1)
  one_obstacle TooManyColumns BadEntry is not = absurd (is.1 not.1)
  one_obstacle BadConnector TooManyRows is not = absurd (not is.0)
  one_obstacle BadConnector TooManyColumns is not = absurd (not.1 is.1)
  one_obstacle BadConnector BadConnector is not = refl
  one_obstacle BadConnector BadEntry is not = absurd (is.2 not.2)
  one_obstacle BadEntry TooManyRows is not = absurd (not is.0)
  one_obstacle BadEntry TooManyColumns is not = absurd (not.1 is.1)
  one_obstacle BadEntry BadConnector is not = absurd (not.2 is.2)
  one_obstacle BadEntry BadEntry is not = refl

one_decision : (o : ComposeOrder) (first second : Matrix) (r s : Report) → ComposeDecides o first second r → ComposeDecides o first second s → r ≡ s
one_decision o first second r s (composed is e) (composed is' f) = e ∙ sym f
one_decision o first second r s (composed is e) (refused obstacle not f) = absurd (unhindered o.sum first second obstacle is not)
one_decision o first second r s (refused obstacle not e) (composed is f) = absurd (unhindered o.sum first second obstacle is not)
one_decision o first second r s (refused obstacle not e) (refused other not' f) = e ∙ ap obstacle_report (one_obstacle o.sum first second obstacle other not not') ∙ sym f

one : (o : ComposeOrder) (first second : List ℕ) (r s : Report) → ComposeReports o first second r → ComposeReports o first second s → r ≡ s
one o first second = one_report_of_text faults.Matrix o.first (λ a. ReportsText faults.Matrix o.second (ComposeDecides o a) (matrix_in o.form false second))
    (λ a. one_report_of_text faults.Matrix o.second (ComposeDecides o a) (one_decision o a) (matrix_in o.form false second))
    (matrix_in o.form false first)

pub compose_has_one_report : (o : ComposeOrder) → HasOneReport (compose_tool o)
compose_has_one_report o = one_report_of_pair (ComposeReports o) (one o) (ComposeSays o) (compose_files o)

-- ---- the meaning

pub read_again : (m : Matrix) → IsMatrix m → dense false (text_of (dense_text m)) ≡ Ok m
read_again m is = dense_again false m is (λ binary. absurd (false≢true binary))

says_of_matrices : (o : ComposeOrder) (first second : Matrix) (r : Report) (answer : Answer) → ComposeDecides o first second r → r.status ≡ answer_status answer → ComposeMeans o first second answer
says_of_matrices o first second r Yes (composed is e) f = (is, read_again (sum_of o.sum first second) is.is_matrix)
says_of_matrices o first second r No (composed is e) f = let s = status_of r _ e in absurd (omega arith)
says_of_matrices o first second r Undecided (composed is e) f = let s = status_of r _ e in absurd (omega arith)
says_of_matrices o first second r Refused (composed is e) f = let s = status_of r _ e in absurd (omega arith)
says_of_matrices o first second r Yes (refused obstacle not e) f = let s = status_of r _ e in absurd (omega arith)
says_of_matrices o first second r No (refused obstacle not e) f = let s = status_of r _ e in absurd (omega arith)
says_of_matrices o first second r Undecided (refused obstacle not e) f = let s = status_of r _ e in absurd (omega arith)
says_of_matrices o first second r Refused (refused obstacle not e) f = (obstacle, not)

says : (o : ComposeOrder) (first second : List ℕ) (r : Report) (answer : Answer) → ComposeReports o first second r → r.status ≡ answer_status answer → ComposeSays o first second answer
says o first second r answer reports is =
    let found = answered faults.Matrix o.first (λ a. ReportsText faults.Matrix o.second (ComposeDecides o a) (matrix_in o.form false second)) (matrix_in o.form false first) r answer reports is in
    let other = answered faults.Matrix o.second (ComposeDecides o found.0) (matrix_in o.form false second) r answer found.2 is in
    (found.0, found.1, (other.0, other.1, says_of_matrices o found.0 other.0 r answer other.2 is))

answers : (o : ComposeOrder) (first second : Matrix) (r : Report) → ComposeDecides o first second r → IsAnswered r
answers o first second r (composed is e) = (Yes, status_of r _ e)
answers o first second r (refused obstacle not e) = (Refused, status_of r _ e)

fault : (o : ComposeOrder) (first second : List ℕ) (r : Report) → ComposeReports o first second r → r.status ≡ failure_status Text → IsFaultOfFile (compose_files o) r
fault o first second =
    fault_of_text faults.Matrix o.first (λ a. ReportsText faults.Matrix o.second (ComposeDecides o a) (matrix_in o.form false second)) (compose_files o) (0, omega arith, refl)
    (λ a. fault_of_last faults.Matrix o.second (ComposeDecides o a) (compose_files o) (1, omega arith, refl) (answers o a) (matrix_in o.form false second))
    (matrix_in o.form false first)

pub compose_lawful : (o : ComposeOrder) → IsLawful (compose_tool o)
compose_lawful o = pair_lawful (ComposeReports o) (ComposeSays o) (λ first second r s a b. ap (λ report. report.status) (one o first second r s a b)) (says o) (compose_files o) (fault o)

-- ---- the cause why there is no sum

pub not_ternary : (kind : SumKind) (first second : Matrix) → IsCauseOf kind first second errors.BadEntry → HaveSum kind first second × ¬ (HasTernaryEntries (sum_of kind first second))
not_ternary kinds.One first second cause = absurd cause
not_ternary kinds.Two first second cause = absurd cause
not_ternary kinds.Delta first second cause = absurd cause
not_ternary kinds.YForm first second cause = absurd cause
not_ternary kinds.Mixed first second cause = absurd cause
not_ternary kinds.Concentrated first second cause = cause
