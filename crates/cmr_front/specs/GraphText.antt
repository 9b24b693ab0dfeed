-- Tools that read one graph text.
use Rattle.std.specs.Prelude.{◌≡◌, ℕ, List, Result, Ok, Err}
use Rattle.text_fields.specs.Reading.{Fault}
use Rattle.text_fields.specs.TextWords.{text_of}
use Rattle.graph_text.specs.declared.error.GraphKind.{GraphKind}
use Rattle.graph_text.specs.declared.read.SizedNetwork.{SizedNetwork}
use Rattle.graph_text.specs.GraphReading.{IsGraph}
use Rattle.cmr_front.specs.declared.outcome.FaultKind.TheVariants as faults
use Rattle.cmr_front.specs.declared.outcome.Stop.{Stop}
use Rattle.cmr_front.specs.declared.outcome.Stop.TheVariants as stops
use Rattle.cmr_front.specs.declared.status.Answer.{Answer}
use Rattle.cmr_front.specs.MatrixText.{matrix_file}
use Rattle.cmr_front.specs.OneText.{text_tool}
use Rattle.cmr_front.specs.Report.{Report}
use Rattle.cmr_front.specs.Texts.{ReportsText}
use Rattle.cmr_front.specs.Tool.{Tool}

-- the reports on the network that a text represents, or on its fault
abbrev pub ReportsGraph : List ℕ → (SizedNetwork → Report → Type 0) → List ℕ → Report → Type 0
ReportsGraph file Decides bytes report = (read : Result SizedNetwork (Fault GraphKind)) × IsGraph (text_of bytes) read × ReportsText faults.Graph file Decides read report

-- the text represents a network that satisfies the meaning of an answer
abbrev pub SaysOfGraph : (SizedNetwork → Answer → Type 0) → List ℕ → Answer → Type 0
SaysOfGraph Says bytes answer = (net : SizedNetwork) × IsGraph (text_of bytes) (Ok net) × Says net answer

-- the tool that decides on the network of one file, which may be as long as a matrix text
abbrev pub graph_tool : List ℕ → (SizedNetwork → Report → Type 0) → (SizedNetwork → Answer → Type 0) → Tool
graph_tool file Decides Says = text_tool (matrix_file file) (ReportsGraph file Decides) (SaysOfGraph Says)

-- the meaning of a stop for a graph text that was read
abbrev pub StopsGraph : List ℕ → List ℕ → Stop → Type 0
StopsGraph name bytes stops.BadWords = ⊥
StopsGraph name bytes (stops.CannotRead file) = ⊥
StopsGraph name bytes (stops.TooLong file) = ⊥
StopsGraph name bytes (stops.BadText file fault place) = (file.now ≡ name) × (kind : GraphKind) × (fault ≡ faults.Graph kind) × IsGraph (text_of bytes) (Err (kind, place))
StopsGraph name bytes stops.Memory = Unit {0}
