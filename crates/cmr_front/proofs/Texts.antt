-- Reports on a text, and on two texts.
use Rattle.std.proofs.Common.{◌≡◌, ◌∙◌, ℕ, List, [], ◌∷◌, Result, Ok, Err, length, map, get_or, ap₂, sym, subst, refl, arith}
use Rattle.std.specs.Prelude.{Contains}
use Rattle.text_fields.specs.Reading.{Fault}
use Rattle.cmr_front.specs.declared.input.Text.{Text}
use Rattle.cmr_front.specs.declared.outcome.FaultKind.{FaultKind}
use Rattle.cmr_front.specs.declared.outcome.Outcome.{Outcome}
use Rattle.cmr_front.specs.declared.outcome.Stop.{Stop}
use Rattle.cmr_front.specs.declared.outcome.Stop.TheVariants as stops
use Rattle.cmr_front.specs.declared.status.Answer.{Answer}
use Rattle.cmr_front.specs.declared.status.Failure.TheVariants as failures
use Rattle.cmr_front.specs.Inputs.{InputFile, bytes_of}
use Rattle.cmr_front.specs.Outcome.{bad_text}
use Rattle.cmr_front.specs.Report.{Report}
use Rattle.cmr_front.specs.Status.{answer_status, failure_status}
use Rattle.cmr_front.specs.Stopped.{StopsText}
use Rattle.cmr_front.specs.Texts.{ReportsPair, ReportsText, SaysOfPair, pair_tool}
use Rattle.cmr_front.specs.Tool.{HasOneReport, IsDecision, IsFaultOfFile, IsLawful}
use Rattle.cmr_front.proofs.Statuses.{IsAnswered, answered_or_failed, no_fault, status_of}

module _ {A K : Type 0} (kind_of : K → FaultKind) (file : List ℕ) (Decides : A → Report → Type 0) where
  -- a decision on the value that a text represents
  pub read_reported : (read : Result A (Fault K)) (x : A) (report : Report) → read ≡ Ok x → Decides x report → ReportsText kind_of file Decides read report
  read_reported read x report e d = subst (λ r. ReportsText kind_of file Decides r report) (sym e) d

  -- a text at fault
  pub fault_reported : (read : Result A (Fault K)) (stop : Stop) → StopsText kind_of file read stop → IsDecision (ReportsText kind_of file Decides read) (Err stop)
  fault_reported read stops.BadWords h = absurd h
  fault_reported read (stops.CannotRead name) h = absurd h
  fault_reported read (stops.TooLong name) h = absurd h
  fault_reported read (stops.BadText name fault place) (same, kind, is, at) =
      subst (λ r. ReportsText kind_of file Decides r (bad_text name.now fault place)) (sym at) (ap₂ (λ n f. bad_text n f place) same is)
  fault_reported read stops.Memory h = tt

  pub one_of_text : ((x : A) (r t : Report) → Decides x r → Decides x t → r.status ≡ t.status) → (read : Result A (Fault K)) (r t : Report)
      → ReportsText kind_of file Decides read r → ReportsText kind_of file Decides read t → r.status ≡ t.status
  one_of_text one (Ok x) r t a b = one x r t a b
  one_of_text one (Err fault) r t a b = status_of r _ a ∙ sym (status_of t _ b)

  pub one_report_of_text : ((x : A) (r t : Report) → Decides x r → Decides x t → r ≡ t) → (read : Result A (Fault K)) (r t : Report)
      → ReportsText kind_of file Decides read r → ReportsText kind_of file Decides read t → r ≡ t
  one_report_of_text one (Ok x) r t a b = one x r t a b
  one_report_of_text one (Err fault) r t a b = a ∙ sym b

  -- an answer is an answer on the value that the text represents
  pub answered : (read : Result A (Fault K)) (r : Report) (answer : Answer) → ReportsText kind_of file Decides read r → r.status ≡ answer_status answer → (x : A) × (read ≡ Ok x) × Decides x r
  answered (Ok x) r answer d is = (x, refl, d)
  answered (Err fault) r answer e is = absurd (answered_or_failed r.status answer failures.Text is (status_of r _ e))

  -- a text at fault is the text of its file if the decision on the value of a text also names one of the files
  pub fault_of_text : (files : List InputFile) → Contains (map (λ (f : InputFile). f.name) files) file
      → ((x : A) (r : Report) → Decides x r → r.status ≡ failure_status failures.Text → IsFaultOfFile files r)
      → (read : Result A (Fault K)) (r : Report) → ReportsText kind_of file Decides read r → r.status ≡ failure_status failures.Text → IsFaultOfFile files r
  fault_of_text files named behind (Ok x) r d is = behind x r d is
  fault_of_text files named behind (Err fault) r e is = record { name = file; kind = kind_of fault.0; place = fault.1; is_read = named; report_is = e }

  -- and if that decision is an answer
  pub fault_of_last : (files : List InputFile) → Contains (map (λ (f : InputFile). f.name) files) file → ((x : A) (r : Report) → Decides x r → IsAnswered r)
      → (read : Result A (Fault K)) (r : Report) → ReportsText kind_of file Decides read r → r.status ≡ failure_status failures.Text → IsFaultOfFile files r
  fault_of_last files named answers = fault_of_text files named (λ x r d is. absurd (no_fault r (answers x r d) is))

-- ---- two texts

-- the texts of a list with two items
two_texts : (ts : List Text) (t u : Text) → length ts ≡ 2 → t ≡ get_or ts 0 t → u ≡ get_or ts 1 u → map bytes_of ts ≡ bytes_of t ∷ bytes_of u ∷ []
two_texts [] t u two is are = absurd (omega arith)
two_texts (first ∷ []) t u two is are = absurd (omega arith)
two_texts (first ∷ second ∷ []) t u two is are = ap₂ (λ (x y : Text). bytes_of x ∷ bytes_of y ∷ []) (sym is) (sym are)
two_texts (first ∷ second ∷ third ∷ ts) t u two is are = absurd (omega arith)

module _ (On : List ℕ → List ℕ → Report → Type 0) where
  pub decided_on_two : (ts : List Text) (t u : Text) (r : Result Outcome Stop) → length ts ≡ 2 → t ≡ get_or ts 0 t → u ≡ get_or ts 1 u
      → IsDecision (On (bytes_of t) (bytes_of u)) r → IsDecision (ReportsPair On (map bytes_of ts)) r
  decided_on_two ts t u r two is are d = subst (λ bytes. IsDecision (ReportsPair On bytes) r) (sym (two_texts ts t u two is are)) d

  pub one_report_of_pair : ((first second : List ℕ) (r t : Report) → On first second r → On first second t → r ≡ t)
      → (Says : List ℕ → List ℕ → Answer → Type 0) (files : List InputFile) → HasOneReport (pair_tool files On Says)
  one_report_of_pair one Says files [] r t a b = absurd a
  one_report_of_pair one Says files (first ∷ []) r t a b = absurd a
  one_report_of_pair one Says files (first ∷ second ∷ []) r t a b = one first second r t a b
  one_report_of_pair one Says files (first ∷ second ∷ third ∷ texts) r t a b = absurd a

  module _ (Says : List ℕ → List ℕ → Answer → Type 0) (one : (first second : List ℕ) (r t : Report) → On first second r → On first second t → r.status ≡ t.status)
      (says : (first second : List ℕ) (r : Report) (answer : Answer) → On first second r → r.status ≡ answer_status answer → Says first second answer) where
    one_status : (texts : List (List ℕ)) (r t : Report) → ReportsPair On texts r → ReportsPair On texts t → r.status ≡ t.status
    one_status [] r t a b = absurd a
    one_status (first ∷ []) r t a b = absurd a
    one_status (first ∷ second ∷ []) r t a b = one first second r t a b
    one_status (first ∷ second ∷ third ∷ texts) r t a b = absurd a

    means : (texts : List (List ℕ)) (r : Report) (answer : Answer) → ReportsPair On texts r → r.status ≡ answer_status answer → SaysOfPair Says texts answer
    means [] r answer a is = absurd a
    means (first ∷ []) r answer a is = absurd a
    means (first ∷ second ∷ []) r answer a is = (first, second, refl, says first second r answer a is)
    means (first ∷ second ∷ third ∷ texts) r answer a is = absurd a

    module _ (files : List InputFile) (fault : (first second : List ℕ) (r : Report) → On first second r → r.status ≡ failure_status failures.Text → IsFaultOfFile files r) where
      at_fault : (texts : List (List ℕ)) (r : Report) → ReportsPair On texts r → r.status ≡ failure_status failures.Text → IsFaultOfFile files r
      at_fault [] r d is = absurd d
      at_fault (first ∷ []) r d is = absurd d
      at_fault (first ∷ second ∷ []) r d is = fault first second r d is
      at_fault (first ∷ second ∷ third ∷ texts) r d is = absurd d

      -- the tool is lawful if its reports on two texts are
      pub pair_lawful : IsLawful (pair_tool files On Says)
      pair_lawful = record { one_status = one_status; means = means; at_fault = at_fault }
