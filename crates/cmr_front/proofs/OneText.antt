-- Tools that read one text.
use Rattle.std.proofs.Common.{◌≡◌, ℕ, List, [], ◌∷◌, Result, length, map, get_or, sym, subst, refl}
use Rattle.cmr_front.specs.declared.input.Text.{Text}
use Rattle.cmr_front.specs.declared.outcome.Outcome.{Outcome}
use Rattle.cmr_front.specs.declared.outcome.Stop.{Stop}
use Rattle.cmr_front.specs.declared.status.Answer.{Answer}
use Rattle.cmr_front.specs.declared.status.Failure.TheVariants as failures
use Rattle.cmr_front.specs.Inputs.{InputFile, bytes_of}
use Rattle.cmr_front.specs.OneText.{ReportsOne, SaysOfOne, text_tool}
use Rattle.cmr_front.specs.Report.{Report}
use Rattle.cmr_front.specs.Status.{answer_status, failure_status}
use Rattle.cmr_front.specs.Tool.{HasOneReport, IsDecision, IsFaultOfFile, IsLawful}
use Rattle.cmr_front.proofs.MatrixText.{one_text}

module _ (On : List ℕ → Report → Type 0) where
  pub decided_on_one : (ts : List Text) (t : Text) (r : Result Outcome Stop) → length ts ≡ 1 → t ≡ get_or ts 0 t → IsDecision (On (bytes_of t)) r → IsDecision (ReportsOne On (map bytes_of ts)) r
  decided_on_one ts t r one is d = subst (λ bytes. IsDecision (ReportsOne On bytes) r) (sym (one_text ts t one is)) d

  pub one_report_of_one : ((bytes : List ℕ) (r s : Report) → On bytes r → On bytes s → r ≡ s) → (Says : List ℕ → Answer → Type 0) (file : InputFile) → HasOneReport (text_tool file On Says)
  one_report_of_one one Says file [] r s a b = absurd a
  one_report_of_one one Says file (bytes ∷ []) r s a b = one bytes r s a b
  one_report_of_one one Says file (bytes ∷ other ∷ texts) r s a b = absurd a

  module _ (Says : List ℕ → Answer → Type 0) (one : (bytes : List ℕ) (r s : Report) → On bytes r → On bytes s → r.status ≡ s.status)
      (says : (bytes : List ℕ) (r : Report) (answer : Answer) → On bytes r → r.status ≡ answer_status answer → Says bytes answer) where
    one_status : (texts : List (List ℕ)) (r s : Report) → ReportsOne On texts r → ReportsOne On texts s → r.status ≡ s.status
    one_status [] r s a b = absurd a
    one_status (bytes ∷ []) r s a b = one bytes r s a b
    one_status (bytes ∷ other ∷ texts) r s a b = absurd a

    means : (texts : List (List ℕ)) (r : Report) (answer : Answer) → ReportsOne On texts r → r.status ≡ answer_status answer → SaysOfOne Says texts answer
    means [] r answer a is = absurd a
    means (bytes ∷ []) r answer a is = (bytes, refl, says bytes r answer a is)
    means (bytes ∷ other ∷ texts) r answer a is = absurd a

    module _ (file : InputFile) (fault : (bytes : List ℕ) (r : Report) → On bytes r → r.status ≡ failure_status failures.Text → IsFaultOfFile (file ∷ []) r) where
      at_fault : (texts : List (List ℕ)) (r : Report) → ReportsOne On texts r → r.status ≡ failure_status failures.Text → IsFaultOfFile (file ∷ []) r
      at_fault [] r d is = absurd d
      at_fault (bytes ∷ []) r d is = fault bytes r d is
      at_fault (bytes ∷ other ∷ texts) r d is = absurd d

      -- the tool is lawful if its reports on the text are
      pub text_lawful : IsLawful (text_tool file On Says)
      text_lawful = record { one_status = one_status; means = means; at_fault = at_fault }
