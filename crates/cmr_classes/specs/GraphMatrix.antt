-- The reports of `graphic` and `network` on a graph text, and the tool with `-c` and without.
use Rattle.std.specs.Prelude.{◌≡◌, ℕ, Bool, true, false, List, []}
use Rattle.cmr_base.specs.Matrix.{Matrix, height, IsMatrix}
use Rattle.graph_text.specs.declared.read.SizedNetwork.{SizedNetwork}
use Rattle.matrix_text.specs.CanonicalMatrices.{dense_text}
use Rattle.cmr_front.specs.declared.status.Answer.{Answer}
use Rattle.cmr_front.specs.declared.status.Answer.TheVariants.{Yes, No, Undecided, Refused}
use Rattle.cmr_front.specs.GraphText.{graph_tool}
use Rattle.cmr_front.specs.Report.{Report}
use Rattle.cmr_front.specs.Status.{answer_status}
use Rattle.cmr_front.specs.Tool.{Tool}
use Rattle.cmr_classes.specs.declared.tools.graphic_network.TestedProperty.{TestedProperty}
use Rattle.cmr_classes.specs.GraphicNetwork.{IsTestable, Shows, path_tool, TestOrder}

-- the matrix for which a network shows the property
pub record IsMatrixOf (p : TestedProperty) (net : SizedNetwork) (m : Matrix) : Type 0 where
  pub is_matrix : IsMatrix m
  pub rows : height m ≡ net.rows
  pub columns : m.width ≡ net.columns
  pub testable : IsTestable p m
  pub shows : Shows p net.net m

abbrev pub graph_matrix_report : Matrix → Report
graph_matrix_report m = record { status = answer_status Yes; output = dense_text m; error = []; files = [] }

abbrev pub GraphDecides : TestedProperty → SizedNetwork → Report → Type 0
GraphDecides p net report = (m : Matrix) × IsMatrixOf p net m × (report ≡ graph_matrix_report m)

abbrev pub GraphMeans : TestedProperty → SizedNetwork → Answer → Type 0
GraphMeans p net Yes = (m : Matrix) × IsMatrixOf p net m
GraphMeans p net No = ⊥
GraphMeans p net Undecided = ⊥
GraphMeans p net Refused = ⊥

-- with `-c`
abbrev pub graph_matrix_tool : TestedProperty → List ℕ → Tool
graph_matrix_tool p file = graph_tool file (GraphDecides p) (GraphMeans p)

abbrev pub either_tool : Bool → Tool → Tool → Tool
either_tool true one other = one
either_tool false one other = other

abbrev pub test_tool : TestedProperty → TestOrder → Tool
test_tool p o = either_tool o.from_graph (graph_matrix_tool p o.file) (path_tool p o)
