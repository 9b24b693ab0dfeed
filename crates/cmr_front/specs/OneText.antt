-- Tools that read one text.
use Rattle.std.specs.Prelude.{◌≡◌, ℕ, List, [], ◌∷◌}
use Rattle.cmr_front.specs.declared.status.Answer.{Answer}
use Rattle.cmr_front.specs.Inputs.{InputFile}
use Rattle.cmr_front.specs.Report.{Report}
use Rattle.cmr_front.specs.Tool.{Tool}

-- the reports on the one text
abbrev pub ReportsOne : (List ℕ → Report → Type 0) → List (List ℕ) → Report → Type 0
ReportsOne On [] report = ⊥
ReportsOne On (bytes ∷ []) report = On bytes report
ReportsOne On (bytes ∷ other ∷ texts) report = ⊥

-- the meaning of an answer for the one text
abbrev pub SaysOfOne : (List ℕ → Answer → Type 0) → List (List ℕ) → Answer → Type 0
SaysOfOne Says texts answer = (bytes : List ℕ) × (texts ≡ bytes ∷ []) × Says bytes answer

-- the tool with these reports on the text of a file and these meanings of its answers
abbrev pub text_tool : InputFile → (List ℕ → Report → Type 0) → (List ℕ → Answer → Type 0) → Tool
text_tool file Reports Says = record { inputs = file ∷ []; InRanges = Unit {0}; Reports = ReportsOne Reports; Means = SaysOfOne Says }
