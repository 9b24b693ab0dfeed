-- The order of the arguments of `graphic` and `network`, their reports, and the meaning of their answers.
use Rattle.std.specs.Prelude.{◌≡◌, ◌++◌, ℕ, Bool, true, false, List, [], Option, option_map, codes, ◌&&◌, ◌||◌, if◌then◌else◌, is_some, ◌∷◌, Some, None}
use Rattle.cmr_base.specs.Matrix.{Matrix, transposed}
use Rattle.cmr_base.specs.Trees.{IsBinary, IsGraphic, IsNetworkMatrix, Reproduces, ReproducesSupport}
use Rattle.cmr_base.specs.declared.line_set.LineSet.{LineSet}
use Rattle.cmr_base.specs.declared.network.Network.{Network as Net}
use Rattle.cmr_classes.specs.declared.tools.graphic_network.TestedProperty.{TestedProperty}
use Rattle.cmr_classes.specs.declared.tools.graphic_network.TestedProperty.TheVariants.{Graphic, Network}
use Rattle.cmr_front.specs.declared.status.Answer.{Answer}
use Rattle.cmr_front.specs.declared.status.Answer.TheVariants.{Yes, No, Undecided, Refused}
use Rattle.cmr_front.specs.MatrixText.{Source, matrix_tool, source}
use Rattle.graph_text.specs.GraphTexts.{graph_text, transposed_graph_text}
use Rattle.cmr_front.specs.Minimal.{IsMinimalAsked, minimal_file, minimal_line}
use Rattle.cmr_front.specs.Report.{Report, asked_file}
use Rattle.cmr_front.specs.Status.{answer_status}
use Rattle.cmr_front.specs.Tool.{Tool}
use Rattle.clap.specs.Words.{App, Row, Text, first_of}
use Rattle.cmr_front.specs.declared.matrix_file.MatrixForm.{MatrixForm}
use Rattle.cmr_classes.specs.declared.tools.graphic_network.TestOptions.{TestOptions}
use Rattle.cmr_front.specs.Words.Arguments.{file_rule, form_rule, from_graph_rule, graph_rule, minimal_rule, tool_app, transposed_rule}
use Rattle.cmr_front.specs.Words.Parsing.{file_in, form_in, has_flag, matches_with_input}
use Rattle.cmr_front.specs.Words.ReadWords.{◌>>=◌}

-- ---- the arguments

-- the options of `graphic` and of `network`
pub record TestOrder : Type 0 where
  pub form : MatrixForm
  pub transposed : Bool
  pub minimal : Option (List ℕ)
  pub graph : Option (List ℕ)
  pub from_graph : Bool
  pub file : List ℕ

-- the tool that tests a property
abbrev pub tool_name : TestedProperty → Text
tool_name Graphic = codes "graphic"
tool_name Network = codes "network"

-- [-i FORMAT] [-t] [-N FILE] [-G FILE] [FILE], or -c [FILE]
abbrev pub test_app : TestedProperty → App
test_app property = tool_app (tool_name property) (form_rule ∷ transposed_rule ∷ minimal_rule ∷ graph_rule ∷ from_graph_rule ∷ file_rule ∷ [])

-- an option for the test of a matrix is given
abbrev pub is_test_asked : List Row → Bool
is_test_asked rows =
    is_some (first_of (codes "format") rows) || has_flag (codes "transposed") rows || is_some (first_of (codes "minimal") rows) || is_some (first_of (codes "graph") rows)

-- `-c` is given without any of these options
abbrev pub test_order_in : List Row → Option TestOrder
test_order_in rows = if has_flag (codes "from-graph") rows && is_test_asked rows
    then None
    else (form_in rows >>= λ form. Some (record {
      form = form;
      transposed = has_flag (codes "transposed") rows;
      minimal = first_of (codes "minimal") rows;
      graph = first_of (codes "graph") rows;
      from_graph = has_flag (codes "from-graph") rows;
      file = file_in rows;
    }))

abbrev pub test_order : TestedProperty → List Text → Option TestOrder
test_order property words = matches_with_input (test_app property) words >>= test_order_in

abbrev pub test_order_of : TestOptions → TestOrder
test_order_of options = record {
  form = options.form;
  transposed = options.transposed;
  minimal = option_map (λ name. name.now) options.minimal;
  graph = option_map (λ name. name.now) options.graph;
  from_graph = options.from_graph;
  file = options.file.now;
}

-- ---- the reports

-- a matrix has the property
abbrev pub Has : TestedProperty → Matrix → Type 0
Has Graphic m = IsGraphic m
Has Network m = IsNetworkMatrix m

-- a network shows that the matrix has the property
abbrev pub Shows : TestedProperty → Net → Matrix → Type 0
Shows Graphic net m = ReproducesSupport net m
Shows Network net m = Reproduces net m

-- whether the property is a property of 0/1 matrices
abbrev pub is_binary : TestedProperty → Bool
is_binary Graphic = true
is_binary Network = false

-- a matrix on which the property can be tested
abbrev pub IsTestable : TestedProperty → Matrix → Type 0
IsTestable Graphic m = IsBinary m
IsTestable Network m = Unit {0}

-- the tested matrix
abbrev pub tested_matrix : Bool → Matrix → Matrix
tested_matrix true m = transposed m
tested_matrix false m = m

-- lines of the given matrix as lines of the tested matrix
abbrev pub tested_lines : Bool → LineSet → LineSet
tested_lines true lines = record { rows = lines.columns; columns = lines.rows }
tested_lines false lines = lines

-- the name of the property of the given matrix
abbrev pub property_name : TestedProperty → Bool → List ℕ
property_name Graphic false = codes "graphic"
property_name Graphic true = codes "cographic"
property_name Network false = codes "network"
property_name Network true = codes "conetwork"

-- the text of a network for the given matrix
abbrev pub written_graph : Bool → Net → List ℕ
written_graph true net = transposed_graph_text net
written_graph false net = graph_text net

abbrev pub test_yes : TestedProperty → TestOrder → Net → Report
test_yes p o net = record {
  status = answer_status Yes;
  output = property_name p o.transposed ++ codes ": yes\n";
  error = [];
  files = asked_file o.graph (written_graph o.transposed net);
}

abbrev pub test_no : TestedProperty → TestOrder → Matrix → Option LineSet → Report
test_no p o m minimal = record {
  status = answer_status No;
  output = property_name p o.transposed ++ codes ": no\n" ++ minimal_line minimal;
  error = [];
  files = minimal_file o.minimal m minimal;
}

-- the network shows that the tested matrix has the property
pub record IsShown (p : TestedProperty) (o : TestOrder) (m : Matrix) (net : Net) : Type 0 where
  pub has : Has p (tested_matrix o.transposed m)
  pub shows : Shows p net (tested_matrix o.transposed m)

-- the tested matrix does not have the property, and if the file of a minimal submatrix is requested, this is one
pub record IsLacking (p : TestedProperty) (o : TestOrder) (m : Matrix) (minimal : Option LineSet) : Type 0 where
  pub lacks : ¬ (Has p (tested_matrix o.transposed m))
  pub asked : IsMinimalAsked (Has p) (tested_matrix o.transposed m) o.minimal (option_map (tested_lines o.transposed) minimal)

-- on a matrix: a yes with any network that shows it, and otherwise a no, with the minimal submatrix if its file is requested
pub data TestDecides (p : TestedProperty) (o : TestOrder) (m : Matrix) (report : Report) : Type 0 where
  yes : (net : Net) → IsShown p o m net → report ≡ test_yes p o net → TestDecides p o m report
  no : (minimal : Option LineSet) → IsLacking p o m minimal → report ≡ test_no p o m minimal → TestDecides p o m report

abbrev pub TestMeans : TestedProperty → TestOrder → Matrix → Answer → Type 0
TestMeans p o m Yes = (net : Net) × IsShown p o m net
TestMeans p o m No = (minimal : Option LineSet) × IsLacking p o m minimal
TestMeans p o m Undecided = ⊥
TestMeans p o m Refused = ⊥

abbrev pub test_source : TestedProperty → TestOrder → Source
test_source p o = source o.form (is_binary p) o.file

-- without `-c`
abbrev pub path_tool : TestedProperty → TestOrder → Tool
path_tool p o = matrix_tool (test_source p o) (Unit {0}) (TestDecides p o) (TestMeans p o)
