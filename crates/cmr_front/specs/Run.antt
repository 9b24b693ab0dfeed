-- What a run reports, how it ends, and what its answer means.
use Rattle.std.specs.Prelude.{◌≡◌, ◌+◌, ◌⊎◌, ℕ, Bool, IsTrue, List, [], length, Result, Ok, Err}
use Rattle.cmr_io.specs.Causes.{Rose}
use Rattle.cmr_io.specs.declared.device.Shelf as shelves
use Rattle.cmr_io.specs.declared.device.Sink as sinks
use Rattle.cmr_front.specs.declared.outcome.FaultKind.{FaultKind}
use Rattle.cmr_front.specs.declared.outcome.Outcome.{Outcome}
use Rattle.cmr_front.specs.declared.outcome.Stop.{Stop}
use Rattle.cmr_front.specs.declared.outcome.Stop.TheVariants as stops
use Rattle.cmr_front.specs.declared.status.Answer.{Answer}
use Rattle.cmr_front.specs.declared.status.Failure.TheVariants as failures
use Rattle.cmr_front.specs.Inputs.{Given, given, not_there, too_much, texts}
use Rattle.cmr_front.specs.Report.{Held, Report}
use Rattle.cmr_front.specs.Outcome.{bad_text, bad_words, cannot_read, out_of_memory, outcome_report, too_long}
use Rattle.cmr_front.specs.Ending.{Devices, Standing, IsDelivered, IsReadyFor, IsCarriedOut, devices, standing, telling_of}
use Rattle.cmr_front.specs.Status.{IsStatus, answer_status, failure_status}
use Rattle.cmr_front.specs.Tool.{Tool}
use Rattle.cmr_front.specs.Unread.{AreAllRead, AreRead, Between, between, GivesTooMuch, HaveBegunWith, HaveGiven, IsNameAt, IsUnread}

-- the order of the arguments: nothing if they are refused, or a tool with its options
pub data Ordered : Type 1 where
  nothing : Ordered
  work : Tool → Ordered

abbrev pub IsNothing : Ordered → Type 0
IsNothing nothing = Unit {0}
IsNothing (work tool) = ⊥

-- the reports of a tool on the contents of its files: there is none if a file does not exist
abbrev pub ReportsGiven : Tool → Given → Report → Type 0
ReportsGiven tool (not_there name) report = ⊥
ReportsGiven tool (too_much name) report = report ≡ too_long name
ReportsGiven tool (texts bytes) report = tool.Reports bytes report

abbrev pub ReportsHeld : Tool → Held → Report → Type 0
ReportsHeld tool held report = ReportsGiven tool (given held tool.inputs) report

-- A report of a run, from the order and the contents of the names. There are several reports if a network is written, since any
-- network that shows the property may be written.
abbrev pub Reports : Ordered → Held → Report → Type 0
Reports nothing held report = report ≡ bad_words
Reports (work tool) held report = ReportsHeld tool held report

-- The meaning of an answer: the files of the tool hold texts that satisfy what the answer says.
abbrev pub Means : Tool → Held → Answer → Type 0
Means tool held answer = (bytes : List (List ℕ)) × (given held tool.inputs ≡ texts bytes) × tool.Means bytes answer

-- The meaning of an answer over every shelf, including one that does not tell its bytes: the reads of all files of the tool were
-- begun, in order and each once, and reached their ends. Each file gave one text, and these texts satisfy what the answer says.
abbrev pub MeansRead : Ordered → Between → Answer → Type 0
MeansRead nothing reads answer = ⊥
MeansRead (work tool) reads answer = (bytes : List (List ℕ)) × (length bytes ≡ length tool.inputs) × AreAllRead tool.inputs reads × HaveGiven tool.inputs bytes reads × tool.Means bytes answer

-- a file of the order could not be read, and the files before it were read
abbrev pub CannotRead : Ordered → Held → Bool → Bool → Between → Bool → List ℕ → Type 0
CannotRead nothing held tells calm reads failed name = ⊥
CannotRead (work tool) held tells calm reads failed name = IsUnread tool.inputs held tells calm reads failed name

-- the reads of the first files of the order were begun, in their order and each once, and no others; each has given one text
abbrev pub BeginsInOrder : Ordered → Between → Type 0
BeginsInOrder nothing reads = reads.after ≡ reads.before
BeginsInOrder (work tool) reads = (bytes : List (List ℕ)) × HaveBegunWith tool.inputs bytes reads

-- The reports of a tool over every shelf. The first two are an answer without a line of standard error, and a fault, on the texts
-- that were read, one for each file: the reads of all files were begun, in order and each once, and reached their ends. The third
-- says that a file is too long: its read was begun last and gave more than its limit, and as many reads reached their ends as there
-- are files before it.
pub data IsReportOf (tool : Tool) (reads : Between) (report : Report) : Type 0 where
  gives_answer : (answer : Answer) → report.status ≡ answer_status answer → report.error ≡ [] → (bytes : List (List ℕ)) → length bytes ≡ length tool.inputs → tool.Reports bytes report
      → AreAllRead tool.inputs reads → HaveGiven tool.inputs bytes reads → IsReportOf tool reads report
  names_fault : (name : List ℕ) (kind : FaultKind) (place : ℕ) → report ≡ bad_text name kind place → (bytes : List (List ℕ)) → length bytes ≡ length tool.inputs → tool.Reports bytes report
      → AreAllRead tool.inputs reads → HaveGiven tool.inputs bytes reads → IsReportOf tool reads report
  names_too_long : (place : ℕ) (name : List ℕ) → IsNameAt tool.inputs place name → report ≡ too_long name → AreRead tool.inputs (place + 1) place reads
      → GivesTooMuch tool.inputs place reads → IsReportOf tool reads report

-- the reports over every shelf
abbrev pub ReportsSome : Ordered → Between → Report → Type 0
ReportsSome nothing reads report = (report ≡ bad_words) × (reads.after ≡ reads.before)
ReportsSome (work tool) reads report = IsReportOf tool reads report

-- How a run ends: a report is carried out, a file cannot be read, or an allocation fails. In the last two cases only the line of
-- standard error is written. If the shelf tells its bytes, the report is a report on the contents of the names.
pub data HasEnded (ordered : Ordered) (standing : Standing) (before after : Devices) (status : ℕ) : Type 0 where
  reported : (report : Report) → ReportsSome ordered (between before.reads after.reads) report
      → (IsTrue standing.shelf_tells → Reports ordered before.held report) → IsCarriedOut report (telling_of standing) before after status
      → HasEnded ordered standing before after status
  unread : (name : List ℕ) → CannotRead ordered before.held standing.shelf_tells standing.shelf_is_calm (between before.reads after.reads) after.failed name
      → Rose before.shelf_faults after.shelf_faults
      → status ≡ failure_status failures.Device → IsDelivered (cannot_read name) (telling_of standing) before after → HasEnded ordered standing before after status
  no_memory : BeginsInOrder ordered (between before.reads after.reads) → status ≡ failure_status failures.Memory
      → IsDelivered out_of_memory (telling_of standing) before after → HasEnded ordered standing before after status

-- The promise of a run, for every order.
pub record Runs (ordered : Ordered) (standing : Standing) (before after : Devices) (status : ℕ) : Type 0 where
  -- the content of each device that tells its bytes
  pub ended : HasEnded ordered standing before after status
  -- the meaning of an answer over every shelf: a status of an answer comes from the texts that were read
  pub means : (answer : Answer) → status ≡ answer_status answer → MeansRead ordered (between before.reads after.reads) answer
  -- the status is that of every report, except for a device or an allocation failure
  pub complete : IsTrue standing.shelf_tells → (report : Report) → Reports ordered before.held report
      → (status ≡ report.status) ⊎ (status ≡ failure_status failures.Device) ⊎ (status ≡ failure_status failures.Memory)
  -- if the devices are ready for every report, no device is the cause of the status
  pub ready : (report : Report) → Reports ordered before.held report → ((other : Report) → Reports ordered before.held other → IsReadyFor other standing)
      → (status ≡ report.status) ⊎ (status ≡ failure_status failures.Memory)
  -- no write is begun if arguments are refused, a text is at fault or an allocation fails
  pub none_written : (status ≡ failure_status failures.Words) ⊎ (status ≡ failure_status failures.Text) ⊎ (status ≡ failure_status failures.Memory) → after.writes ≡ before.writes
  -- arguments are the cause if and only if they are refused and no allocation fails
  pub refused : IsNothing ordered → (status ≡ failure_status failures.Words) ⊎ (status ≡ failure_status failures.Memory)
  pub refused_only : status ≡ failure_status failures.Words → IsNothing ordered
  -- a device is the cause only if a call of the shelf or of standard output failed
  pub device : status ≡ failure_status failures.Device → Rose before.shelf_faults after.shelf_faults ⊎ Rose before.output_faults after.output_faults
  pub statuses : IsStatus status

-- The same over a shelf, standard output and standard error, from their states before the run to their states after it.
abbrev pub RunsOver : {S O E : Type 0} → shelves.Ghosts S → sinks.Ghosts O → sinks.Ghosts E → Ordered → S → O → E → S → O → E → ℕ → Type 0
RunsOver s o e ordered shelf out err shelf_after out_after err_after status =
    Runs ordered
    (standing s o e shelf out err)
    (devices s o e shelf out err)
    (devices s o e shelf_after out_after err_after)
    status

-- The meaning of an outcome or a stop for an order, before anything is written: it is a report, except for a file that cannot be
-- read and for an allocation failure.
abbrev pub Ends : Ordered → Held → Bool → Bool → Between → Bool → Result Outcome Stop → Type 0
Ends ordered held tells calm reads failed (Ok outcome) = ReportsSome ordered reads (outcome_report outcome) × (IsTrue tells → Reports ordered held (outcome_report outcome))
Ends ordered held tells calm reads failed (Err stops.BadWords) = IsNothing ordered × (reads.after ≡ reads.before)
Ends ordered held tells calm reads failed (Err (stops.CannotRead name)) = CannotRead ordered held tells calm reads failed name.now
Ends ordered held tells calm reads failed (Err (stops.TooLong name)) = ReportsSome ordered reads (too_long name.now) × (IsTrue tells → Reports ordered held (too_long name.now))
Ends ordered held tells calm reads failed (Err (stops.BadText name kind place)) = ReportsSome ordered reads (bad_text name.now kind place) × (IsTrue tells → Reports ordered held (bad_text name.now kind place))
Ends ordered held tells calm reads failed (Err stops.Memory) = BeginsInOrder ordered reads
