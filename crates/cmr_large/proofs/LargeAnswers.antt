-- The meaning of the answers of `cmr-large`. All reports on a text have one status.
use Rattle.std.proofs.Common.{◌≡◌, ◌≤◌, ◌∙◌, ℕ, List, [], ◌∷◌, Option, ap, refl, sym, arith}
use Rattle.cmr_base.specs.declared.limits.TheConstants.{MAX_LINES}
use Rattle.cmr_base.specs.Matrix.{IsTernary, Matrix}
use Rattle.large_unimodular.specs.declared.verdict.LargeVerdict.{LargeVerdict}
use Rattle.large_unimodular.specs.declared.verdict.LargeVerdict.TheVariants as verdicts
use Rattle.large_unimodular.specs.LargeLaws.{AreOfSameKind}
use Rattle.large_unimodular.specs.LargeVerdicts.{IsLargeVerdict}
use Rattle.large_unimodular.proofs.LargeMeaning.{one_kind, verdicts_mean}
use Rattle.cmr_front.specs.declared.outcome.FaultKind.TheVariants as faults
use Rattle.cmr_front.specs.declared.status.Answer.{Answer}
use Rattle.cmr_front.specs.declared.status.Answer.TheVariants.{Yes, No, Undecided, Refused}
use Rattle.cmr_front.specs.Evidence.{evidence_file}
use Rattle.cmr_front.specs.Report.{Report}
use Rattle.cmr_front.specs.Status.{answer_status}
use Rattle.cmr_front.specs.Tool.{IsLawful}
use Rattle.cmr_front.proofs.OneText.{text_lawful}
use Rattle.cmr_front.proofs.Statuses.{status_of}
use Rattle.cmr_front.proofs.Texts.{answered, fault_of_last, one_of_text}
use Rattle.cmr_evidence.proofs.Unimodular.{not_unimodular, unimodular}
use Rattle.cmr_large.specs.LargeInputs.{large_in}
use Rattle.cmr_large.specs.LargeReports.{LargeAnswerMeans, LargeDecides, answer_for}
use Rattle.cmr_large.specs.LargeTu.{LargeOrder, LargeReportsOf, LargeSaysOf, large_tool}
use Rattle.cmr_large.proofs.ShownLines.{undecided_part}

same_answer : (one other : LargeVerdict) → AreOfSameKind one other → answer_for one ≡ answer_for other
same_answer verdicts.Yes verdicts.Yes alike = refl
same_answer verdicts.Yes (verdicts.No others) alike = absurd alike
same_answer verdicts.Yes (verdicts.Open others) alike = absurd alike
same_answer (verdicts.No lines) verdicts.Yes alike = absurd alike
same_answer (verdicts.No lines) (verdicts.No others) alike = refl
same_answer (verdicts.No lines) (verdicts.Open others) alike = absurd alike
same_answer (verdicts.Open lines) verdicts.Yes alike = absurd alike
same_answer (verdicts.Open lines) (verdicts.No others) alike = absurd alike
same_answer (verdicts.Open lines) (verdicts.Open others) alike = refl

module _ (limit pivots : ℕ) where
  one_status : (name : Option (List ℕ)) (m : Matrix) (r s : Report) → LargeDecides limit pivots name m r → LargeDecides limit pivots name m s → r.status ≡ s.status
  one_status name m r s a b =
      status_of r _ a.report_is
      ∙ ap answer_status (same_answer a.verdict b.verdict (one_kind limit pivots m a.verdict b.verdict a.limit_in a.ternary a.right b.right))
      ∙ sym (status_of s _ b.report_is)

  by_verdict : (m : Matrix) (verdict : LargeVerdict) → limit ≤ MAX_LINES → IsTernary m → IsLargeVerdict limit pivots m verdict → (answer : Answer)
      → answer_status (answer_for verdict) ≡ answer_status answer → LargeAnswerMeans limit pivots m answer
  by_verdict m verdicts.Yes few ternary right Yes is = unimodular m (verdicts_mean limit pivots m verdicts.Yes few ternary right).unimodular
  by_verdict m verdicts.Yes few ternary right No is = absurd (omega arith)
  by_verdict m verdicts.Yes few ternary right Undecided is = absurd (omega arith)
  by_verdict m verdicts.Yes few ternary right Refused is = absurd (omega arith)
  by_verdict m (verdicts.No lines) few ternary right Yes is = absurd (omega arith)
  by_verdict m (verdicts.No lines) few ternary right No is = (lines, not_unimodular m lines ternary (verdicts_mean limit pivots m (verdicts.No lines) few ternary right))
  by_verdict m (verdicts.No lines) few ternary right Undecided is = absurd (omega arith)
  by_verdict m (verdicts.No lines) few ternary right Refused is = absurd (omega arith)
  by_verdict m (verdicts.Open lines) few ternary right Yes is = absurd (omega arith)
  by_verdict m (verdicts.Open lines) few ternary right No is = absurd (omega arith)
  by_verdict m (verdicts.Open lines) few ternary right Undecided is = (lines, undecided_part limit pivots m few ternary lines right)
  by_verdict m (verdicts.Open lines) few ternary right Refused is = absurd (omega arith)

  says : (name : Option (List ℕ)) (m : Matrix) (r : Report) (answer : Answer) → LargeDecides limit pivots name m r → r.status ≡ answer_status answer → LargeAnswerMeans limit pivots m answer
  says name m r answer d is = by_verdict m d.verdict d.limit_in d.ternary d.right answer (sym (status_of r _ d.report_is) ∙ is)

pub large_lawful : (o : LargeOrder) → IsLawful (large_tool o)
large_lawful o =
    let law =
    text_lawful (LargeReportsOf o) (LargeSaysOf o)
    (λ bytes. one_of_text faults.Matrix o.file (LargeDecides o.budget o.pivots o.fault) (one_status o.budget o.pivots o.fault) (large_in o.form bytes))
    (λ bytes r answer a is. let found = answered faults.Matrix o.file (LargeDecides o.budget o.pivots o.fault) (large_in o.form bytes) r answer a is in
    (found.0, found.1, says o.budget o.pivots o.fault found.0 r answer found.2 is))
    (evidence_file o.file)
    (λ bytes. fault_of_last faults.Matrix o.file (LargeDecides o.budget o.pivots o.fault) (evidence_file o.file ∷ []) (0, omega arith, refl)
    (λ m r d. (answer_for d.verdict, status_of r _ d.report_is)) (large_in o.form bytes)) in
    record { one_status = law.one_status; means = law.means; at_fault = law.at_fault }
