-- A graph that `graphic` or `network` wrote gives the matrix back.
use Rattle.std.specs.Prelude.{◌≡◌, ℕ, false, List, [], ◌∷◌, Some, Ok}
use Rattle.cmr_base.specs.Matrix.{Matrix, IsMatrix}
use Rattle.cmr_front.specs.declared.status.Answer.TheVariants.{Yes}
use Rattle.cmr_front.specs.Inputs.{given, texts}
use Rattle.cmr_front.specs.MatrixText.{matrix_file, matrix_in}
use Rattle.cmr_front.specs.Report.{Held, Report, with_files}
use Rattle.cmr_front.specs.Run.{ReportsHeld}
use Rattle.cmr_front.specs.Status.{answer_status}
use Rattle.cmr_classes.specs.declared.tools.graphic_network.TestedProperty.{TestedProperty}
use Rattle.cmr_classes.specs.GraphMatrix.{graph_matrix_report, graph_matrix_tool, test_tool}
use Rattle.cmr_classes.specs.GraphicNetwork.{IsTestable, TestDecides, is_binary, TestOrder}

-- With `-c` a text gives the matrix, and no other report.
abbrev pub GivesMatrix : TestedProperty → List ℕ → Matrix → Type 0
GivesMatrix p bytes m = (file : List ℕ) → (graph_matrix_tool p file).Reports (bytes ∷ []) (graph_matrix_report m)
    × ((other : Report) → (graph_matrix_tool p file).Reports (bytes ∷ []) other → other ≡ graph_matrix_report m)

-- a yes without `-t` that is written to a file of `-G`
abbrev pub GraphsGiveBack : Type 0
GraphsGiveBack = (p : TestedProperty) (o : TestOrder) (m : Matrix) (report : Report) (name : List ℕ) → IsMatrix m → IsTestable p m → o.transposed ≡ false → o.graph ≡ Some name
    → TestDecides p o m report → report.status ≡ answer_status Yes
    → (bytes : List ℕ) × (report.files ≡ record { name = name; bytes = bytes } ∷ []) × GivesMatrix p bytes m

-- With `-c` the file of this name gives the matrix, and no other report.
abbrev pub FileGivesMatrix : TestedProperty → List ℕ → Held → Matrix → Type 0
FileGivesMatrix p name held m = ReportsHeld (graph_matrix_tool p name) held (graph_matrix_report m)
    × ((other : Report) → ReportsHeld (graph_matrix_tool p name) held other → other ≡ graph_matrix_report m)

-- the same for the names that hold the files, when the graph is in its file
abbrev pub GraphFilesGiveBack : Type 0
GraphFilesGiveBack = (p : TestedProperty) (o : TestOrder) (m : Matrix) (report : Report) (name : List ℕ) (held : Held) → IsMatrix m → IsTestable p m → o.transposed ≡ false → o.graph ≡ Some name
    → TestDecides p o m report → report.status ≡ answer_status Yes → FileGivesMatrix p name (with_files held report.files) m

-- The file that was read holds a matrix, and the file of the graph gives this matrix with `-c`.
pub record IsGivenBack (p : TestedProperty) (o : TestOrder) (name : List ℕ) (held : Held) (report : Report) : Type 0 where
  pub matrix_text : List ℕ
  pub held_text : given held (matrix_file o.file ∷ []) ≡ texts (matrix_text ∷ [])
  pub matrix : Matrix
  pub matrix_is : matrix_in o.form (is_binary p) matrix_text ≡ Ok matrix
  pub gives_back : FileGivesMatrix p name (with_files held report.files) matrix

-- the same from the contents of the names before the run, for every report of the tool
abbrev pub HeldGraphsGiveBack : Type 0
HeldGraphsGiveBack = (p : TestedProperty) (o : TestOrder) (name : List ℕ) (held : Held) (report : Report) → o.from_graph ≡ false → o.transposed ≡ false → o.graph ≡ Some name
    → ReportsHeld (test_tool p o) held report → report.status ≡ answer_status Yes → IsGivenBack p o name held report
