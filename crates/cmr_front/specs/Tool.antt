-- A tool with its options.
use Rattle.std.specs.Prelude.{◌≡◌, ℕ, List, Contains, map, Result, Ok, Err}
use Rattle.cmr_front.specs.declared.outcome.FaultKind.{FaultKind}
use Rattle.cmr_front.specs.declared.outcome.Outcome.{Outcome}
use Rattle.cmr_front.specs.declared.outcome.Stop.{Stop}
use Rattle.cmr_front.specs.declared.outcome.Stop.TheVariants as stops
use Rattle.cmr_front.specs.declared.status.Answer.{Answer}
use Rattle.cmr_front.specs.declared.status.Failure.TheVariants.{Text}
use Rattle.cmr_front.specs.Inputs.{InputFile}
use Rattle.cmr_front.specs.Outcome.{bad_text, outcome_report}
use Rattle.cmr_front.specs.Report.{Report}
use Rattle.cmr_front.specs.Status.{answer_status, failure_status}

pub record Tool : Type 1 where
  -- the files that it reads, in order
  pub inputs : List InputFile
  -- the numbers of its options are in their ranges
  pub InRanges : Type 0
  -- its reports on the texts of these files
  pub Reports : List (List ℕ) → Report → Type 0
  -- the meaning of an answer for these texts
  pub Means : List (List ℕ) → Answer → Type 0

-- the line on the text of one of these files
pub record IsFaultOfFile (files : List InputFile) (report : Report) : Type 0 where
  pub name : List ℕ
  pub kind : FaultKind
  pub place : ℕ
  pub is_read : Contains (map (λ file. file.name) files) name
  pub report_is : report ≡ bad_text name kind place

-- The law of each tool: all its reports have one status, a report with an answer means what the answer says, and a report with the
-- status of a text fault is the line on a file that the tool reads.
pub record IsLawful (tool : Tool) : Type 0 where
  pub one_status : (bytes : List (List ℕ)) (r s : Report) → tool.Reports bytes r → tool.Reports bytes s → r.status ≡ s.status
  pub means : (bytes : List (List ℕ)) (r : Report) (answer : Answer) → tool.Reports bytes r → r.status ≡ answer_status answer → tool.Means bytes answer
  pub at_fault : (bytes : List (List ℕ)) (r : Report) → tool.Reports bytes r → r.status ≡ failure_status Text → IsFaultOfFile tool.inputs r

-- The texts determine the whole report.
abbrev pub HasOneReport : Tool → Type 0
HasOneReport tool = (bytes : List (List ℕ)) (r s : Report) → tool.Reports bytes r → tool.Reports bytes s → r ≡ s

-- A decision on texts that were read: a report, or an allocation failure.
abbrev pub IsDecision : (Report → Type 0) → Result Outcome Stop → Type 0
IsDecision Reports (Ok outcome) = Reports (outcome_report outcome)
IsDecision Reports (Err stops.BadWords) = ⊥
IsDecision Reports (Err (stops.CannotRead name)) = ⊥
IsDecision Reports (Err (stops.TooLong name)) = ⊥
IsDecision Reports (Err (stops.BadText name kind place)) = Reports (bad_text name.now kind place)
IsDecision Reports (Err stops.Memory) = Unit {0}
