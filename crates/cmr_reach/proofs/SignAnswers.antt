-- The meaning of the answers of `sign` for the matrix and the rows.
use Rattle.std.proofs.Common.{◌≡◌, ◌∙◌, ℕ, List, false, ap, sym, arith, refl}
use Rattle.cmr_base.specs.declared.line_set.LineSet.{LineSet}
use Rattle.cmr_base.specs.Matrix.{Matrix}
use Rattle.cmr_base.specs.Signing.{IsTotallyUnimodular}
use Rattle.ghouila.specs.Answer.{IsViolatorAmong}
use Rattle.ghouila.proofs.CamionLaw.{unsigned}
use Rattle.sign_tool.specs.declared.signing.SetSigning.{SetSigning}
use Rattle.sign_tool.specs.declared.signing.SetSigning.TheVariants.{Signed, Violated}
use Rattle.sign_tool.proofs.OneAnswer.{answers_are_one}
use Rattle.cmr_front.specs.declared.status.Answer.{Answer}
use Rattle.cmr_front.specs.declared.status.Answer.TheVariants.{Yes, No, Undecided, Refused}
use Rattle.cmr_front.specs.declared.status.Failure.TheVariants.{Text}
use Rattle.cmr_front.specs.declared.outcome.FaultKind.TheVariants as faults
use Rattle.cmr_front.specs.MatrixText.{matrix_in}
use Rattle.cmr_front.specs.Report.{Report}
use Rattle.cmr_front.specs.Status.{answer_status, failure_status}
use Rattle.cmr_front.specs.Texts.{ReportsText}
use Rattle.cmr_front.specs.Tool.{HasOneReport, IsFaultOfFile, IsLawful}
use Rattle.cmr_front.proofs.Statuses.{IsAnswered, status_of}
use Rattle.cmr_front.proofs.Texts.{answered, one_report_of_pair, one_report_of_text, pair_lawful, fault_of_last, fault_of_text}
use Rattle.cmr_reach.specs.RowSet.{set_of_text}
use Rattle.cmr_reach.specs.Sign.{IsAnswerFor, SignDecides, SignMeans, SignReports, SignSays, sign_files, sign_report, sign_tool, SignOrder}

-- ---- one report

one_decision : (m : Matrix) (rows : List ℕ) (r s : Report) → SignDecides m rows r → SignDecides m rows s → r ≡ s
one_decision m rows r s a b = a.report_is ∙ ap (sign_report m rows) (answers_are_one m rows a.answer b.answer a.is_answer.right b.is_answer.right a.is_answer.run b.is_answer.run) ∙ sym b.report_is

one : (o : SignOrder) (matrix rows : List ℕ) (r s : Report) → SignReports o matrix rows r → SignReports o matrix rows s → r ≡ s
one o matrix rows = one_report_of_text faults.Matrix o.matrix (λ m. ReportsText faults.Matrix o.rows (λ lines. SignDecides m lines.rows) (set_of_text m rows))
    (λ m. one_report_of_text faults.Matrix o.rows (λ lines. SignDecides m lines.rows) (λ lines. one_decision m lines.rows) (set_of_text m rows))
    (matrix_in o.form false matrix)

pub sign_has_one_report : (o : SignOrder) → HasOneReport (sign_tool o)
sign_has_one_report o = one_report_of_pair (SignReports o) (one o) (SignSays o) (sign_files o)

-- ---- the meaning

-- a violator has rows without a signing
not_unimodular : (m : Matrix) (rows : List ℕ) (lines : LineSet) → IsViolatorAmong m rows lines.rows lines.columns → ¬ (IsTotallyUnimodular m)
not_unimodular m rows lines v unimodular = let s = unimodular lines.rows v.row_set in unsigned m lines.rows lines.columns v.column_set v.violator s.0 s.1

says_of_answer : (m : Matrix) (rows : List ℕ) (answer : SetSigning) → IsAnswerFor m rows answer → (given : Answer) → (sign_report m rows answer).status ≡ answer_status given → SignMeans m rows given
says_of_answer m rows (Signed signs steps) is Yes e = (signs, steps, record { signing = is.right; run = is.run })
says_of_answer m rows (Signed signs steps) is No e = absurd (omega arith)
says_of_answer m rows (Signed signs steps) is Undecided e = absurd (omega arith)
says_of_answer m rows (Signed signs steps) is Refused e = absurd (omega arith)
says_of_answer m rows (Violated lines) is Yes e = absurd (omega arith)
says_of_answer m rows (Violated lines) is No e = (lines, record { violator = is.right; run = is.run; not_unimodular = not_unimodular m rows lines is.right })
says_of_answer m rows (Violated lines) is Undecided e = absurd (omega arith)
says_of_answer m rows (Violated lines) is Refused e = absurd (omega arith)

says : (o : SignOrder) (matrix rows : List ℕ) (r : Report) (answer : Answer) → SignReports o matrix rows r → r.status ≡ answer_status answer → SignSays o matrix rows answer
says o matrix rows r answer reports is =
    let found = answered faults.Matrix o.matrix (λ m. ReportsText faults.Matrix o.rows (λ lines. SignDecides m lines.rows) (set_of_text m rows)) (matrix_in o.form false matrix) r answer reports is in
    let named = answered faults.Matrix o.rows (λ lines. SignDecides found.0 lines.rows) (set_of_text found.0 rows) r answer found.2 is in
    let decided = named.2 in
    (found.0, found.1, (named.0, named.1, says_of_answer found.0 named.0.rows decided.answer decided.is_answer answer (sym (status_of r _ decided.report_is) ∙ is)))

-- ---- a decision is an answer

report_answers : (m : Matrix) (rows : List ℕ) (answer : SetSigning) (r : Report) → r ≡ sign_report m rows answer → IsAnswered r
report_answers m rows (Signed signs steps) r e = (Yes, status_of r _ e)
report_answers m rows (Violated lines) r e = (No, status_of r _ e)

fault : (o : SignOrder) (matrix rows : List ℕ) (r : Report) → SignReports o matrix rows r → r.status ≡ failure_status Text → IsFaultOfFile (sign_files o) r
fault o matrix rows =
    fault_of_text faults.Matrix o.matrix (λ m. ReportsText faults.Matrix o.rows (λ lines. SignDecides m lines.rows) (set_of_text m rows)) (sign_files o) (0, omega arith, refl)
    (λ m. fault_of_last faults.Matrix o.rows (λ lines. SignDecides m lines.rows) (sign_files o) (1, omega arith, refl) (λ lines r d. report_answers m lines.rows d.answer r d.report_is) (set_of_text m rows))
    (matrix_in o.form false matrix)

pub sign_lawful : (o : SignOrder) → IsLawful (sign_tool o)
sign_lawful o = pair_lawful (SignReports o) (SignSays o) (λ matrix rows r s a b. ap (λ report. report.status) (one o matrix rows r s a b)) (says o) (sign_files o) (fault o)
