-- The report of an outcome or a stop.
use Rattle.std.specs.Prelude.{◌++◌, ℕ, List, [], map, codes, Result, Ok, Err}
use Rattle.std.specs.Fmt.{decimal}
use Rattle.matrix_text.specs.declared.error.TextKind.{TextKind}
use Rattle.matrix_text.specs.declared.error.TextKind.TheVariants as kinds
use Rattle.tree_text.specs.declared.error.TreeKind.{TreeKind}
use Rattle.tree_text.specs.declared.error.TreeKind.TheVariants as trees
use Rattle.chains.specs.declared.chain_error.ChainKind.{ChainKind}
use Rattle.chains.specs.declared.chain_error.ChainKind.TheVariants as chains
use Rattle.graph_text.specs.declared.error.GraphKind.{GraphKind}
use Rattle.graph_text.specs.declared.error.GraphKind.TheVariants as graphs
use Rattle.cmr_front.specs.declared.outcome.FaultKind.{FaultKind}
use Rattle.cmr_front.specs.declared.outcome.FaultKind.TheVariants.{Matrix, Tree, Chain, Graph}
use Rattle.cmr_front.specs.declared.outcome.OutputFile.{OutputFile}
use Rattle.cmr_front.specs.declared.outcome.Outcome.{Outcome}
use Rattle.cmr_front.specs.declared.outcome.Stop.{Stop}
use Rattle.cmr_front.specs.declared.outcome.Stop.TheVariants as stops
use Rattle.cmr_front.specs.declared.status.Failure.TheVariants as failures
use Rattle.cmr_front.specs.Report.{File, Report, refusal}
use Rattle.cmr_front.specs.Status.{answer_status}

abbrev pub text_kind_name : TextKind → List ℕ
text_kind_name kinds.NotNumber = codes "NotNumber"
text_kind_name kinds.TooBig = codes "TooBig"
text_kind_name kinds.TooManyRows = codes "TooManyRows"
text_kind_name kinds.TooManyColumns = codes "TooManyColumns"
text_kind_name kinds.BadEntry = codes "BadEntry"
text_kind_name kinds.NotBinary = codes "NotBinary"
text_kind_name kinds.Short = codes "Short"
text_kind_name kinds.Extra = codes "Extra"
text_kind_name kinds.RowOutOfRange = codes "RowOutOfRange"
text_kind_name kinds.ColumnOutOfRange = codes "ColumnOutOfRange"
text_kind_name kinds.TwiceNamed = codes "TwiceNamed"
text_kind_name kinds.NotRising = codes "NotRising"
text_kind_name kinds.OtherSize = codes "OtherSize"

abbrev pub tree_kind_name : TreeKind → List ℕ
tree_kind_name trees.NotNumber = codes "NotNumber"
tree_kind_name trees.TooBig = codes "TooBig"
tree_kind_name trees.UnknownKind = codes "UnknownKind"
tree_kind_name trees.Short = codes "Short"
tree_kind_name trees.Extra = codes "Extra"
tree_kind_name trees.NotRising = codes "NotRising"
tree_kind_name trees.OutOfRange = codes "OutOfRange"
tree_kind_name trees.NotPart = codes "NotPart"
tree_kind_name trees.TooDeep = codes "TooDeep"
tree_kind_name trees.WrongVersion = codes "WrongVersion"

abbrev pub chain_kind_name : ChainKind → List ℕ
chain_kind_name chains.NotNumber = codes "NotNumber"
chain_kind_name chains.TooBig = codes "TooBig"
chain_kind_name chains.UnknownStep = codes "UnknownStep"
chain_kind_name chains.Short = codes "Short"
chain_kind_name chains.Extra = codes "Extra"
chain_kind_name chains.NotRising = codes "NotRising"
chain_kind_name chains.OutOfRange = codes "OutOfRange"
chain_kind_name chains.WrongVersion = codes "WrongVersion"

abbrev pub graph_kind_name : GraphKind → List ℕ
graph_kind_name graphs.NotNumber = codes "NotNumber"
graph_kind_name graphs.TooBig = codes "TooBig"
graph_kind_name graphs.BadElement = codes "BadElement"
graph_kind_name graphs.TooManyRows = codes "TooManyRows"
graph_kind_name graphs.TooManyColumns = codes "TooManyColumns"
graph_kind_name graphs.Short = codes "Short"
graph_kind_name graphs.OutOfRange = codes "OutOfRange"
graph_kind_name graphs.NotTree = codes "NotTree"

abbrev pub kind_name : FaultKind → List ℕ
kind_name (Matrix kind) = text_kind_name kind
kind_name (Tree kind) = tree_kind_name kind
kind_name (Chain kind) = chain_kind_name kind
kind_name (Graph kind) = graph_kind_name kind

abbrev pub file_of : OutputFile → File
file_of file = record { name = file.name.now; bytes = file.bytes.items }

abbrev pub outcome_report : Outcome → Report
outcome_report outcome = record {
  status = answer_status outcome.answer;
  output = outcome.output.items;
  error = [];
  files = map file_of outcome.files.items;
}

-- the line on a text at fault
abbrev pub fault_line : List ℕ → List ℕ → List ℕ → List ℕ
fault_line name kind place = codes "cmr: " ++ name ++ codes ": " ++ kind ++ codes " at byte " ++ place ++ codes "\n"

abbrev pub cannot_write_line : List ℕ → List ℕ
cannot_write_line name = codes "cmr: cannot write " ++ name ++ codes "\n"

abbrev pub bad_words : Report
bad_words = refusal failures.Words (codes "cmr: bad command line\n")

abbrev pub too_long : List ℕ → Report
too_long name = refusal failures.Text (codes "cmr: " ++ name ++ codes ": TooLong\n")

abbrev pub bad_text : List ℕ → FaultKind → ℕ → Report
bad_text name kind place = refusal failures.Text (fault_line name (kind_name kind) (decimal place))

abbrev pub cannot_read : List ℕ → Report
cannot_read name = refusal failures.Device (codes "cmr: cannot read " ++ name ++ codes "\n")

abbrev pub out_of_memory : Report
out_of_memory = refusal failures.Memory (codes "cmr: out of memory\n")

abbrev pub stop_report : Stop → Report
stop_report stops.BadWords = bad_words
stop_report (stops.CannotRead name) = cannot_read name.now
stop_report (stops.TooLong name) = too_long name.now
stop_report (stops.BadText name kind place) = bad_text name.now kind place
stop_report stops.Memory = out_of_memory

-- the report of an outcome or of a stop
abbrev pub ended_report : Result Outcome Stop → Report
ended_report (Ok outcome) = outcome_report outcome
ended_report (Err stop) = stop_report stop
