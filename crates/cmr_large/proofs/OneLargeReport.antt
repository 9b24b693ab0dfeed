-- The text determines the report, except for the violator of a no.
use Rattle.std.proofs.Common.{◌≡◌, ◌≢◌, ◌∙◌, ℕ, List, [], ◌∷◌, Option, Result, Ok, Err, ap, refl, sym}
use Rattle.cmr_base.specs.Matrix.{Matrix}
use Rattle.text_fields.specs.Reading.{Fault}
use Rattle.matrix_text.specs.declared.error.TextKind.{TextKind}
use Rattle.large_unimodular.specs.declared.verdict.LargeVerdict.{LargeVerdict}
use Rattle.large_unimodular.specs.declared.verdict.LargeVerdict.TheVariants as verdicts
use Rattle.large_unimodular.specs.LargeLaws.{AreOfSameKind}
use Rattle.large_unimodular.proofs.LargeMeaning.{one_kind}
use Rattle.cmr_front.specs.declared.outcome.FaultKind.TheVariants as faults
use Rattle.cmr_front.specs.declared.status.Answer.TheVariants.{No}
use Rattle.cmr_front.specs.Report.{Report}
use Rattle.cmr_front.specs.Status.{answer_status}
use Rattle.cmr_front.specs.Texts.{ReportsText}
use Rattle.cmr_front.proofs.Statuses.{status_of}
use Rattle.cmr_large.specs.LargeInputs.{large_in}
use Rattle.cmr_large.specs.LargeReportLaws.{LargeReportsAreOne}
use Rattle.cmr_large.specs.LargeReports.{LargeDecides, answer_for, large_report}

same_report : (name : Option (List ℕ)) (m : Matrix) (one other : LargeVerdict) → AreOfSameKind one other → answer_status (answer_for one) ≢ answer_status No
    → large_report name m one ≡ large_report name m other
same_report name m verdicts.Yes verdicts.Yes alike decided = refl
same_report name m verdicts.Yes (verdicts.No others) alike decided = absurd alike
same_report name m verdicts.Yes (verdicts.Open others) alike decided = absurd alike
same_report name m (verdicts.No lines) other alike decided = absurd (decided refl)
same_report name m (verdicts.Open lines) verdicts.Yes alike decided = absurd alike
same_report name m (verdicts.Open lines) (verdicts.No others) alike decided = absurd alike
same_report name m (verdicts.Open lines) (verdicts.Open others) alike decided = ap (λ it. large_report name m (verdicts.Open it)) alike

module _ (limit pivots : ℕ) (name : Option (List ℕ)) where
  on_matrix : (m : Matrix) (one other : Report) → LargeDecides limit pivots name m one → LargeDecides limit pivots name m other → one.status ≢ answer_status No → one ≡ other
  on_matrix m one other a b decided =
      a.report_is
      ∙ same_report name m a.verdict b.verdict (one_kind limit pivots m a.verdict b.verdict a.limit_in a.ternary a.right b.right) (λ e. decided (status_of one _ a.report_is ∙ e))
      ∙ sym b.report_is

  on_text : (file : List ℕ) (read : Result Matrix (Fault TextKind)) (one other : Report) → ReportsText faults.Matrix file (LargeDecides limit pivots name) read one
      → ReportsText faults.Matrix file (LargeDecides limit pivots name) read other → one.status ≢ answer_status No → one ≡ other
  on_text file (Ok m) one other a b decided = on_matrix m one other a b decided
  on_text file (Err fault) one other a b decided = a ∙ sym b

pub large_reports_are_one : LargeReportsAreOne
large_reports_are_one order [] one other a b decided = absurd a
large_reports_are_one order (bytes ∷ []) one other a b decided = on_text order.budget order.pivots order.fault order.file (large_in order.form bytes) one other a b decided
large_reports_are_one order (bytes ∷ more ∷ texts) one other a b decided = absurd a
