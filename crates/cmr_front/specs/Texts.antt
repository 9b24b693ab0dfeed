-- Reports on a text, and tools that read two texts.
use Rattle.std.specs.Prelude.{◌≡◌, ℕ, List, [], ◌∷◌, Result, Ok, Err}
use Rattle.text_fields.specs.Reading.{Fault}
use Rattle.cmr_front.specs.declared.outcome.FaultKind.{FaultKind}
use Rattle.cmr_front.specs.declared.status.Answer.{Answer}
use Rattle.cmr_front.specs.Inputs.{InputFile}
use Rattle.cmr_front.specs.Outcome.{bad_text}
use Rattle.cmr_front.specs.Report.{Report}
use Rattle.cmr_front.specs.Tool.{Tool}

-- from the decisions on the value that the text represents; if it represents none, the report is its first fault
abbrev pub ReportsText : {A K : Type 0} → (K → FaultKind) → List ℕ → (A → Report → Type 0) → Result A (Fault K) → Report → Type 0
ReportsText kind_of file Decides (Ok x) report = Decides x report
ReportsText kind_of file Decides (Err fault) report = report ≡ bad_text file (kind_of fault.0) fault.1

-- the reports on two texts
abbrev pub ReportsPair : (List ℕ → List ℕ → Report → Type 0) → List (List ℕ) → Report → Type 0
ReportsPair On [] report = ⊥
ReportsPair On (first ∷ []) report = ⊥
ReportsPair On (first ∷ second ∷ []) report = On first second report
ReportsPair On (first ∷ second ∷ other ∷ texts) report = ⊥

-- the meaning of an answer for two texts
abbrev pub SaysOfPair : (List ℕ → List ℕ → Answer → Type 0) → List (List ℕ) → Answer → Type 0
SaysOfPair Says texts answer = (first : List ℕ) × (second : List ℕ) × (texts ≡ first ∷ second ∷ []) × Says first second answer

-- the tool with these reports on the texts of two files and these meanings of its answers
abbrev pub pair_tool : List InputFile → (List ℕ → List ℕ → Report → Type 0) → (List ℕ → List ℕ → Answer → Type 0) → Tool
pair_tool files Reports Says = record { inputs = files; InRanges = Unit {0}; Reports = ReportsPair Reports; Means = SaysOfPair Says }
