-- The order of the arguments of `cmr-large`, and the tool that they order.
use Rattle.std.specs.Prelude.{◌≤◌, ℕ, List, codes, [], ◌∷◌, Option, Some, None, option_map, if◌then◌else◌}
use Rattle.std.specs.Str.{bytes_eq}
use Rattle.clap.specs.Words.{App, Row, Text}
use Rattle.cmr_base.specs.declared.limits.TheConstants.{MAX_LINES}
use Rattle.cmr_front.specs.declared.matrix_file.MatrixForm.{MatrixForm}
use Rattle.cmr_front.specs.declared.status.Answer.{Answer}
use Rattle.cmr_front.specs.Evidence.{evidence_file}
use Rattle.cmr_front.specs.OneText.{text_tool}
use Rattle.cmr_front.specs.Report.{Report}
use Rattle.cmr_front.specs.Run.{Ordered, nothing, work}
use Rattle.cmr_front.specs.Tool.{Tool}
use Rattle.cmr_front.specs.Words.Arguments.{fault_rule, file_rule, form_rule, lines_rule, pivots_rule, tool_app, workers_rule}
use Rattle.cmr_front.specs.Words.Parsing.{fault_in, file_in, form_in, lines_in, matches_with_input, pivots_in, workers_in}
use Rattle.cmr_front.specs.Words.ReadWords.{◌>>=◌}
use Rattle.cmr_large.specs.declared.tu.LargeOptions.{LargeOptions}
use Rattle.cmr_large.specs.LargeReports.{LargeDecides, LargeAnswerMeans}
use Rattle.cmr_large.specs.LargeInputs.{ReportsLarge, SaysOfLarge}

-- ---- the arguments

-- the options of `tu`
pub record LargeOrder : Type 0 where
  pub form : MatrixForm
  pub budget : ℕ
  pub pivots : ℕ
  pub workers : ℕ
  pub fault : Option (List ℕ)
  pub file : List ℕ

-- [-i FORMAT] [--lines L] [--pivots K] [-w N] [-E FILE] [FILE]
abbrev pub large_app : App
large_app = tool_app (codes "tu") (form_rule ∷ lines_rule ∷ pivots_rule ∷ workers_rule ∷ fault_rule ∷ file_rule ∷ [])

abbrev pub large_order_in : List Row → Option LargeOrder
large_order_in rows = do
  form ← form_in rows
  budget ← lines_in rows
  pivots ← pivots_in rows
  workers ← workers_in rows
  Some (record { form = form; budget = budget; pivots = pivots; workers = workers; fault = fault_in rows; file = file_in rows })

abbrev pub large_tu_order : List Text → Option LargeOrder
large_tu_order words = matches_with_input large_app words >>= large_order_in

-- the first argument is `tu`; nothing if the arguments are refused
abbrev pub large_order : List (List ℕ) → Option LargeOrder
large_order [] = None
large_order (tool ∷ words) = if bytes_eq tool (codes "tu") then large_tu_order words else None

abbrev pub large_order_of : LargeOptions → LargeOrder
large_order_of options = record {
  form = options.form;
  budget = options.budget;
  pivots = options.pivots;
  workers = options.workers;
  fault = option_map (λ name. name.now) options.fault;
  file = options.file.now;
}

-- ---- the tool

-- the reports of an order, which do not depend on the workers
abbrev pub LargeReportsOf : LargeOrder → List ℕ → Report → Type 0
LargeReportsOf o = ReportsLarge o.form o.file (LargeDecides o.budget o.pivots o.fault)

abbrev pub LargeSaysOf : LargeOrder → List ℕ → Answer → Type 0
LargeSaysOf o = SaysOfLarge o.form (LargeAnswerMeans o.budget o.pivots)

-- it reads one text, which may be as long as evidence
abbrev pub large_tool : LargeOrder → Tool
large_tool o = record (text_tool (evidence_file o.file) (LargeReportsOf o) (LargeSaysOf o)) {
  InRanges = (o.budget ≤ MAX_LINES) × (1 ≤ o.workers) × (o.workers ≤ 64);
}

-- the tool of the order, or nothing if the arguments are refused
abbrev pub large_ordered : Option LargeOrder → Ordered
large_ordered None = nothing
large_ordered (Some o) = work (large_tool o)
