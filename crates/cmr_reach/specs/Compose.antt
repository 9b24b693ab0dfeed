-- The order of the arguments of `compose`, its reports on two matrices, and the meaning of its answers.
use Rattle.std.specs.Prelude.{◌≡◌, ◌≤◌, ◌+◌, ◌++◌, ℕ, false, List, [], ◌∷◌, Ok, codes, Option, Some, None, if◌then◌else◌}
use Rattle.std.specs.Fmt.{decimal}
use Rattle.cmr_base.specs.declared.limits.TheConstants.{MAX_COLUMNS, MAX_ROWS}
use Rattle.cmr_base.specs.Matrix.{Matrix, HasTernaryEntries, IsMatrix, height, nonzeros_of}
use Rattle.text_fields.specs.TextWords.{text_of}
use Rattle.matrix_text.specs.CanonicalMatrices.{dense_text}
use Rattle.matrix_text.specs.Dense.{dense}
use Rattle.compose.specs.declared.sum_kind.SumKind.{SumKind}
use Rattle.compose.specs.SumKinds.{HaveSum, lost_columns, lost_rows, sum_of}
use Rattle.cmr_front.specs.declared.outcome.FaultKind.TheVariants as faults
use Rattle.cmr_front.specs.declared.status.Answer.{Answer}
use Rattle.cmr_front.specs.declared.status.Answer.TheVariants.{Yes, No, Undecided, Refused}
use Rattle.cmr_front.specs.Inputs.{InputFile}
use Rattle.cmr_front.specs.MatrixText.{matrix_file, matrix_in}
use Rattle.cmr_front.specs.Report.{Report}
use Rattle.cmr_front.specs.Status.{answer_status}
use Rattle.cmr_front.specs.Texts.{ReportsText, pair_tool}
use Rattle.cmr_front.specs.Tool.{Tool}
use Rattle.cmr_reach.specs.declared.tools.compose_tool.Composition.{Composition}
use Rattle.cmr_reach.specs.declared.tools.compose_tool.Composition.TheVariants.{Sum, Without}
use Rattle.cmr_reach.specs.declared.tools.compose_tool.Obstacle.{Obstacle}
use Rattle.cmr_reach.specs.declared.tools.compose_tool.Obstacle.TheVariants.{TooManyRows, TooManyColumns, BadConnector, BadEntry}
use Rattle.std.specs.Str.{bytes_eq}
use Rattle.clap.specs.Words.{App, Row, Text, first_of}
use Rattle.compose.specs.declared.sum_kind.SumKind.TheVariants.{One, Two, Delta, YForm, Mixed, Concentrated}
use Rattle.cmr_front.specs.declared.matrix_file.MatrixForm.{MatrixForm}
use Rattle.cmr_front.specs.Words.Arguments.{form_rule, operand_rule, output_rule, required, tool_app}
use Rattle.cmr_front.specs.Words.Parsing.{form_in, matches_in}
use Rattle.cmr_front.specs.Words.ReadWords.{◌>>=◌}
use Rattle.cmr_reach.specs.declared.tools.compose_tool.ComposeOptions.{ComposeOptions}

-- ---- the arguments

-- the options of `compose`
pub record ComposeOrder : Type 0 where
  pub form : MatrixForm
  pub sum : SumKind
  pub first : List ℕ
  pub second : List ℕ
  pub output : List ℕ

-- [-i FORMAT] SUM FIRST SECOND -M FILE
abbrev pub compose_app : App
compose_app = tool_app (codes "compose") (form_rule ∷ operand_rule (codes "sum") ∷ operand_rule (codes "first") ∷ operand_rule (codes "second") ∷ required output_rule ∷ [])

abbrev pub sum_named : Text → Option SumKind
sum_named name = if bytes_eq name (codes "one") then Some One
    else if bytes_eq name (codes "two") then Some Two
    else if bytes_eq name (codes "delta") then Some Delta
    else if bytes_eq name (codes "y") then Some YForm
    else if bytes_eq name (codes "mixed") then Some Mixed
    else if bytes_eq name (codes "concentrated") then Some Concentrated else None

-- SUM
abbrev pub sum_in : List Row → Option SumKind
sum_in rows = first_of (codes "sum") rows >>= sum_named

abbrev pub compose_order_in : List Row → Option ComposeOrder
compose_order_in rows = do
  form ← form_in rows
  sum ← sum_in rows
  first ← first_of (codes "first") rows
  second ← first_of (codes "second") rows
  output ← first_of (codes "output") rows
  Some (record { form = form; sum = sum; first = first; second = second; output = output })

abbrev pub compose_order : List Text → Option ComposeOrder
compose_order words = matches_in compose_app words >>= compose_order_in

abbrev pub compose_order_of : ComposeOptions → ComposeOrder
compose_order_of options = record {
  form = options.form;
  sum = options.sum;
  first = options.first.now;
  second = options.second.now;
  output = options.output.now;
}

-- ---- the sum, or the cause why there is none

-- The sum has at most as many rows and columns as a matrix may have: the lines of both matrices without the lines that it loses.
abbrev pub HaveFewRows : SumKind → Matrix → Matrix → Type 0
HaveFewRows kind first second = height first + height second ≤ MAX_ROWS + lost_rows kind

abbrev pub HaveFewColumns : SumKind → Matrix → Matrix → Type 0
HaveFewColumns kind first second = first.width + second.width ≤ MAX_COLUMNS + lost_columns kind

-- the sum is defined, and is a matrix
pub record IsComposed (kind : SumKind) (first second : Matrix) : Type 0 where
  pub rows : HaveFewRows kind first second
  pub columns : HaveFewColumns kind first second
  pub connected : HaveSum kind first second
  pub is_matrix : IsMatrix (sum_of kind first second)

-- each obstacle holds only if the obstacles before it do not hold
abbrev pub IsObstacle : SumKind → Matrix → Matrix → Obstacle → Type 0
IsObstacle kind first second TooManyRows = ¬ (HaveFewRows kind first second)
IsObstacle kind first second TooManyColumns = HaveFewRows kind first second × ¬ (HaveFewColumns kind first second)
IsObstacle kind first second BadConnector = HaveFewRows kind first second × HaveFewColumns kind first second × ¬ (HaveSum kind first second)
IsObstacle kind first second BadEntry =
    HaveFewRows kind first second × HaveFewColumns kind first second × HaveSum kind first second × ¬ (HasTernaryEntries (sum_of kind first second))

abbrev pub IsComposition : SumKind → Matrix → Matrix → Composition → Type 0
IsComposition kind first second (Sum sum) = IsComposed kind first second × (sum ≡ sum_of kind first second)
IsComposition kind first second (Without obstacle) = IsObstacle kind first second obstacle

-- ---- the reports

-- composed RxC nonzeros K
abbrev pub composed_line : Matrix → List ℕ
composed_line m = codes "composed " ++ decimal (height m) ++ codes "x" ++ decimal m.width ++ codes " nonzeros " ++ decimal (nonzeros_of m.rows) ++ codes "\n"

-- the sum in its file
abbrev pub composed_report : List ℕ → Matrix → Report
composed_report output sum = record {
  status = answer_status Yes;
  output = composed_line sum;
  error = [];
  files = (record { name = output; bytes = dense_text sum }) ∷ [];
}

abbrev pub obstacle_name : Obstacle → List ℕ
obstacle_name TooManyRows = codes "TooManyRows"
obstacle_name TooManyColumns = codes "TooManyColumns"
obstacle_name BadConnector = codes "BadConnector"
obstacle_name BadEntry = codes "BadEntry"

abbrev pub obstacle_report : Obstacle → Report
obstacle_report obstacle = record {
  status = answer_status Refused;
  output = codes "refused: " ++ obstacle_name obstacle ++ codes "\n";
  error = [];
  files = [];
}

-- on two matrices
pub data ComposeDecides (o : ComposeOrder) (first second : Matrix) (report : Report) : Type 0 where
  composed : IsComposed o.sum first second → report ≡ composed_report o.output (sum_of o.sum first second) → ComposeDecides o first second report
  refused : (obstacle : Obstacle) → IsObstacle o.sum first second obstacle → report ≡ obstacle_report obstacle → ComposeDecides o first second report

-- ---- the meaning

-- the sum is defined, and the text that is written represents it
abbrev pub ComposeMeans : ComposeOrder → Matrix → Matrix → Answer → Type 0
ComposeMeans o first second Yes =
    IsComposed o.sum first second × (dense false (text_of (dense_text (sum_of o.sum first second))) ≡ Ok (sum_of o.sum first second))
ComposeMeans o first second No = ⊥
ComposeMeans o first second Undecided = ⊥
ComposeMeans o first second Refused = (obstacle : Obstacle) × IsObstacle o.sum first second obstacle

-- ---- the tool

-- on the texts of the two matrices: a fault of the first text has precedence
abbrev pub ComposeReports : ComposeOrder → List ℕ → List ℕ → Report → Type 0
ComposeReports o first second report =
    ReportsText faults.Matrix o.first (λ a. ReportsText faults.Matrix o.second (ComposeDecides o a) (matrix_in o.form false second)) (matrix_in o.form false first) report

abbrev pub ComposeSays : ComposeOrder → List ℕ → List ℕ → Answer → Type 0
ComposeSays o first second answer = (a : Matrix) × (matrix_in o.form false first ≡ Ok a) × ((b : Matrix) × (matrix_in o.form false second ≡ Ok b) × ComposeMeans o a b answer)

abbrev pub compose_files : ComposeOrder → List InputFile
compose_files o = matrix_file o.first ∷ matrix_file o.second ∷ []

abbrev pub compose_tool : ComposeOrder → Tool
compose_tool o = pair_tool (compose_files o) (ComposeReports o) (ComposeSays o)
