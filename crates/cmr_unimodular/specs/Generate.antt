-- The order of the arguments of `generate`, its reports, and the meaning of its answers.
use Rattle.std.specs.Prelude.{◌≡◌, ◌≤◌, ◌<◌, ◌^◌, ◌++◌, ℕ, List, [], None, codes, ◌∷◌, Option, Some, if◌then◌else◌, option_map}
use Rattle.std.specs.Fmt.{decimal}
use Rattle.cmr_base.specs.declared.limits.TheConstants.{MAX_LINES, MAX_ROWS}
use Rattle.cmr_base.specs.Matrix.{Matrix, height, nonzeros_of, IsMatrix}
use Rattle.matrix_text.specs.CanonicalMatrices.{dense_text}
use Rattle.generate.specs.declared.making.MakeKind.{MakeKind}
use Rattle.generate.specs.declared.making.MakeKind.TheVariants.{Network, TwoSum}
use Rattle.generate.specs.Generated.{IsGenerated}
use Rattle.cmr_front.specs.declared.status.Answer.{Answer}
use Rattle.cmr_front.specs.Report.{Report, asked_file}
use Rattle.cmr_front.specs.Tool.{Tool}
use Rattle.cmr_unimodular.specs.Tu.{UnimodularMeans}
use Rattle.cmr_unimodular.specs.Verdict.{VerdictOrder, Decides}
use Rattle.std.specs.Str.{bytes_eq}
use Rattle.clap.specs.Words.{App, Row, Text, first_of}
use Rattle.cmr_unimodular.specs.declared.tools.generate_tool.GenerateOptions.{GenerateOptions}
use Rattle.cmr_front.specs.Words.Arguments.{lines_rule, operand_rule, output_rule, pivots_rule, tool_app, workers_rule}
use Rattle.cmr_front.specs.Words.Parsing.{lines_in, matches_in, number_from, pivots_in, workers_in}
use Rattle.cmr_front.specs.Words.ReadWords.{◌>>=◌}

-- ---- the arguments

-- the options of `generate`
pub record GenerateOrder : Type 0 where
  pub what : MakeKind
  pub size : ℕ
  pub number : ℕ
  pub budget : ℕ
  pub pivots : ℕ
  pub workers : ℕ
  pub output : Option (List ℕ)

-- KIND SIZE NUMBER [--lines L] [--pivots K] [-w N] [-M FILE]
abbrev pub generate_app : App
generate_app = tool_app (codes "generate") (operand_rule (codes "kind") ∷ operand_rule (codes "size") ∷ operand_rule (codes "number") ∷ lines_rule ∷ pivots_rule ∷ workers_rule ∷ output_rule ∷ [])

abbrev pub make_kind_named : Text → Option MakeKind
make_kind_named name = if bytes_eq name (codes "network") then Some Network
    else if bytes_eq name (codes "twosum") then Some TwoSum else None

-- KIND
abbrev pub make_kind_in : List Row → Option MakeKind
make_kind_in rows = first_of (codes "kind") rows >>= make_kind_named

-- the maximum SIZE: the matrix has at most 1000 rows and columns with it
abbrev pub most_size : MakeKind → ℕ
most_size Network = MAX_ROWS
most_size TwoSum = 249

-- SIZE
abbrev pub size_in : MakeKind → List Row → Option ℕ
size_in what rows = first_of (codes "size") rows >>= number_from 1 (most_size what)

-- NUMBER
abbrev pub number_in : List Row → Option ℕ
number_in rows = first_of (codes "number") rows >>= number_from 0 2147483647

abbrev pub generate_order_in : List Row → Option GenerateOrder
generate_order_in rows = do
  what ← make_kind_in rows
  size ← size_in what rows
  number ← number_in rows
  budget ← lines_in rows
  pivots ← pivots_in rows
  workers ← workers_in rows
  Some (record { what = what; size = size; number = number; budget = budget; pivots = pivots; workers = workers; output = first_of (codes "output") rows })

abbrev pub generate_order : List Text → Option GenerateOrder
generate_order words = matches_in generate_app words >>= generate_order_in

abbrev pub generate_order_of : GenerateOptions → GenerateOrder
generate_order_of options = record {
  what = options.what;
  size = options.size;
  number = options.number;
  budget = options.budget;
  pivots = options.pivots;
  workers = options.workers;
  output = option_map (λ name. name.now) options.output;
}

-- ---- the reports

-- the generated matrix
pub record IsMade (o : GenerateOrder) (m : Matrix) : Type 0 where
  pub generated : IsGenerated o.what o.size o.number m
  pub is_matrix : IsMatrix m

-- the verdict of `tu` on it
abbrev pub generate_verdict : GenerateOrder → VerdictOrder
generate_verdict o = record { label = codes "totally unimodular"; budget = o.budget; pivots = o.pivots; tree = None; fault = None }

abbrev pub kind_word : MakeKind → List ℕ
kind_word Network = codes "network"
kind_word TwoSum = codes "twosum"

-- generated KIND RxC nonzeros K
abbrev pub summary_line : MakeKind → Matrix → List ℕ
summary_line what m =
    codes "generated " ++ kind_word what ++ codes " " ++ decimal (height m) ++ codes "x" ++ decimal m.width
    ++ codes " nonzeros " ++ decimal (nonzeros_of m.rows) ++ codes "\n"

-- the summary before the report of `tu`, and the matrix after its files
abbrev pub generate_report : GenerateOrder → Matrix → Report → Report
generate_report o m tested = record {
  status = tested.status;
  output = summary_line o.what m ++ tested.output;
  error = tested.error;
  files = tested.files ++ asked_file o.output (dense_text m);
}

pub record GenerateDecides (o : GenerateOrder) (report : Report) : Type 0 where
  pub made : Matrix
  pub is_made : IsMade o made
  pub tested : Report
  pub verdict : Decides (generate_verdict o) made tested
  pub report_is : report ≡ generate_report o made tested

-- the meaning of `tu` for the generated matrix
abbrev pub GenerateMeans : GenerateOrder → Answer → Type 0
GenerateMeans o answer = (made : Matrix) × IsMade o made × UnimodularMeans o.budget o.pivots made answer

pub record IsInRange (o : GenerateOrder) : Type 0 where
  pub positive : 1 ≤ o.size
  pub size : o.size ≤ most_size o.what
  pub number : o.number < 2 ^ 31
  pub budget : o.budget ≤ MAX_LINES
  pub workers : (1 ≤ o.workers) × (o.workers ≤ 64)

-- it reads no file
abbrev pub generate_tool : GenerateOrder → Tool
generate_tool o = record {
  inputs = [];
  InRanges = IsInRange o;
  Reports = λ texts report. GenerateDecides o report;
  Means = λ texts answer. GenerateMeans o answer;
}
