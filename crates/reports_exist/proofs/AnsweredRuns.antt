-- A run that answers has delivered a report on the texts that it read.
use Rattle.std.proofs.Common.{◌≡◌, ◌∙◌, ◌++◌, ℕ, List, refl, sym, ap, subst}
use Rattle.std.proofs.lemmas.List.{append_cancel_left}
use Rattle.cmr_front.specs.AlikeReports.{DifferInFiles}
use Rattle.cmr_front.specs.declared.status.Failure.TheVariants.{Device, Memory, Text}
use Rattle.cmr_front.specs.Ending.{IsCarriedOut, IsDelivered, cut_short, delivered, telling_of, unwritten}
use Rattle.cmr_front.specs.Outcome.{bad_text, too_long}
use Rattle.cmr_front.specs.Report.{Report}
use Rattle.cmr_front.specs.Run.{HasEnded, IsReportOf, gives_answer, names_fault, names_too_long, no_memory, reported, unread, work}
use Rattle.cmr_front.specs.Unread.{between}
use Rattle.cmr_front.proofs.Statuses.{answered_or_failed, status_of}
use Rattle.cmr_tools.specs.ReportLaws.{HoldAlike}
use Rattle.cmr_tools.specs.ToolOrders.{Order, tool_of}
use Rattle.cmr_tools.proofs.ReportsOfOrders.{reports_are_alike}
use Rattle.reports_exist.specs.AnsweredRuns.{AnsweredRun, HasOutput, RunsHaveOneAnswer}

-- the report that a run has delivered
pub record HasDelivered {order : Order} {bytes : List (List ℕ)} (run : AnsweredRun order bytes) : Type 0 where
  pub report : Report
  pub reports : (tool_of order).Reports bytes report
  pub status : run.status ≡ report.status
  pub delivered : IsDelivered report (telling_of run.standing) run.before run.after

module _ (order : Order) (bytes : List (List ℕ)) (run : AnsweredRun order bytes) where
  on_texts : (report : Report) → run.status ≡ report.status → IsReportOf (tool_of order) (between run.before.reads run.after.reads) report → (tool_of order).Reports bytes report
  on_texts report same (gives_answer answer status error texts count reports all given) =
      subst (λ (read : List (List ℕ)). (tool_of order).Reports read report) (append_cancel_left run.before.reads.texts texts bytes (sym given.given ∙ run.read)) reports
  on_texts report same (names_fault name kind place is texts count reports all given) =
      absurd (answered_or_failed run.status run.answer Text run.has_answer (same ∙ status_of report (bad_text name kind place) is))
  on_texts report same (names_too_long place name named is read given) =
      absurd (answered_or_failed run.status run.answer Text run.has_answer (same ∙ status_of report (too_long name) is))

  carried_out : (report : Report) → IsReportOf (tool_of order) (between run.before.reads run.after.reads) report
      → IsCarriedOut report (telling_of run.standing) run.before run.after run.status → HasDelivered run
  carried_out report is (delivered same whole) = record { report = report; reports = on_texts report same is; status = same; delivered = whole }
  carried_out report is (unwritten failed left) = absurd (answered_or_failed run.status run.answer Device run.has_answer failed)
  carried_out report is (cut_short failed left) = absurd (answered_or_failed run.status run.answer Device run.has_answer failed)

  ended : HasEnded (work (tool_of order)) run.standing run.before run.after run.status → HasDelivered run
  ended (reported report is held whole) = carried_out report is whole
  ended (unread name cannot rose failed line) = absurd (answered_or_failed run.status run.answer Device run.has_answer failed)
  ended (no_memory begun failed line) = absurd (answered_or_failed run.status run.answer Memory run.has_answer failed)

  pub has_delivered : HasDelivered run
  has_delivered = ended run.runs.ended

  has_output : (output : List ℕ) → has_delivered.report.output ≡ output → HasOutput run output
  has_output output same = record {
    taken = has_delivered.delivered.output_taken ∙ ap (λ (written : List ℕ). run.before.output_taken ++ written) same;
    got = λ tells. has_delivered.delivered.output tells ∙ ap (λ (written : List ℕ). run.before.output ++ written) same;
  }

pub runs_have_one_answer : RunsHaveOneAnswer
runs_have_one_answer order bytes one other =
    let first = has_delivered order bytes one in
    let second = has_delivered order bytes other in
    let alike : DifferInFiles HoldAlike first.report second.report = reports_are_alike order bytes first.report second.report first.reports second.reports in
    record {
      status = first.status ∙ alike.status ∙ sym second.status;
      output = second.report.output;
      of_one = has_output order bytes one second.report.output alike.output;
      of_other = has_output order bytes other second.report.output refl;
    }
