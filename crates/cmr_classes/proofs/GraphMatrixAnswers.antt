-- The meaning of the answers of `graphic` and `network`, with `-c` and without.
use Rattle.std.proofs.Common.{◌≡◌, ◌∙◌, ℕ, Bool, true, false, List, [], ◌∷◌, Result, Ok, Err, ap, refl, sym, subst, arith}
use Rattle.std.specs.Prelude.{IfOk}
use Rattle.cmr_base.specs.declared.memory.Memory.{Memory}
use Rattle.cmr_base.specs.Matrix.{Matrix, height, IsMatrix}
use Rattle.graph_text.specs.declared.read.SizedNetwork.{SizedNetwork}
use Rattle.graph_text.proofs.OneMatrix.{binary_matrices_are_one, matrices_are_one}
use Rattle.cmr_front.specs.declared.status.Answer.{Answer}
use Rattle.cmr_front.specs.declared.status.Answer.TheVariants.{Yes, No, Undecided, Refused}
use Rattle.cmr_front.specs.declared.outcome.Outcome.{Outcome}
use Rattle.cmr_front.specs.declared.outcome.Stop.{Stop}
use Rattle.cmr_front.specs.MatrixText.{matrix_file}
use Rattle.cmr_front.specs.Report.{Report}
use Rattle.cmr_front.specs.Status.{answer_status}
use Rattle.cmr_front.specs.Tool.{HasOneReport, IsDecision, IsLawful}
use Rattle.cmr_front.proofs.GraphFile.{graph_lawful, one_report_of_graph}
use Rattle.cmr_front.proofs.Statuses.{status_of}
use Rattle.cmr_classes.specs.declared.tools.graphic_network.TestedProperty.{TestedProperty}
use Rattle.cmr_classes.specs.declared.tools.graphic_network.TestedProperty.TheVariants.{Graphic, Network}
use Rattle.cmr_classes.specs.GraphicNetwork.{IsTestable, Shows, path_tool, TestOrder}
use Rattle.cmr_classes.specs.GraphMatrix.{GraphDecides, GraphMeans, IsMatrixOf, either_tool, graph_matrix_report, graph_matrix_tool, test_tool}
use Rattle.cmr_classes.proofs.GraphicNetworkAnswers.{path_lawful}

-- a matrix that was made from a network
pub matrix_made : (p : TestedProperty) (net : SizedNetwork) (r : Result Matrix Memory) → IfOk r IsMatrix → IfOk r (λ m. height m ≡ net.rows)
    → IfOk r (λ m. m.width ≡ net.columns) → IfOk r (IsTestable p) → IfOk r (Shows p net.net)
    → IfOk r (IsMatrixOf p net)
matrix_made p net (Ok m) shape rows columns testable shows = record { is_matrix = shape; rows = rows; columns = columns; testable = testable; shows = shows }
matrix_made p net (Err memory) shape rows columns testable shows = tt

pub all_testable : (r : Result Matrix Memory) → IfOk r (IsTestable Network)
all_testable (Ok m) = tt
all_testable (Err memory) = tt

one_matrix : (p : TestedProperty) (net : SizedNetwork) (m n : Matrix) → IsMatrixOf p net m → IsMatrixOf p net n → m ≡ n
one_matrix Graphic net m n a b = binary_matrices_are_one net.net m n a.is_matrix b.is_matrix (a.rows ∙ sym b.rows) (a.columns ∙ sym b.columns) a.testable b.testable a.shows b.shows
one_matrix Network net m n a b = matrices_are_one net.net m n a.is_matrix b.is_matrix (a.rows ∙ sym b.rows) (a.columns ∙ sym b.columns) a.shows b.shows

one_report : (p : TestedProperty) (net : SizedNetwork) (r s : Report) → GraphDecides p net r → GraphDecides p net s → r ≡ s
one_report p net r s (m, is, e) (n, other, f) = e ∙ ap graph_matrix_report (one_matrix p net m n is other) ∙ sym f

says : (p : TestedProperty) (net : SizedNetwork) (r : Report) (answer : Answer) → GraphDecides p net r → r.status ≡ answer_status answer → GraphMeans p net answer
says p net r Yes (m, is, e) at = (m, is)
says p net r No (m, is, e) at = let s = status_of r _ e in absurd (omega arith)
says p net r Undecided (m, is, e) at = let s = status_of r _ e in absurd (omega arith)
says p net r Refused (m, is, e) at = let s = status_of r _ e in absurd (omega arith)

pub graph_matrix_lawful : (p : TestedProperty) (file : List ℕ) → IsLawful (graph_matrix_tool p file)
graph_matrix_lawful p file = graph_lawful file (GraphDecides p) (GraphMeans p) (λ net r s a b. ap (λ (report : Report). report.status) (one_report p net r s a b)) (says p) (λ net r made. (Yes, status_of r _ made.2))

pub one_graph_matrix : (p : TestedProperty) (file : List ℕ) → HasOneReport (graph_matrix_tool p file)
one_graph_matrix p file = one_report_of_graph file (GraphDecides p) (GraphMeans p) (one_report p)

-- with `-c` or without
pub test_lawful : (p : TestedProperty) (o : TestOrder) → IsLawful (test_tool p o)
test_lawful p o = go o.from_graph
  where
    go : (b : Bool) → IsLawful (either_tool b (graph_matrix_tool p o.file) (path_tool p o))
    go true = graph_matrix_lawful p o.file
    go false = path_lawful p o

-- the tools have no numbers
pub test_in_ranges : (p : TestedProperty) (o : TestOrder) → (test_tool p o).InRanges
test_in_ranges p o = go o.from_graph
  where
    go : (b : Bool) → (either_tool b (graph_matrix_tool p o.file) (path_tool p o)).InRanges
    go true = tt
    go false = tt

-- with `-c` and without, one file is read
pub test_inputs : (p : TestedProperty) (o : TestOrder) → (test_tool p o).inputs ≡ matrix_file o.file ∷ []
test_inputs p o = go o.from_graph
  where
    go : (b : Bool) → (either_tool b (graph_matrix_tool p o.file) (path_tool p o)).inputs ≡ matrix_file o.file ∷ []
    go true = refl
    go false = refl

-- with `-c` the tool decides on the graph
pub decides_on_graph : (p : TestedProperty) (o : TestOrder) (bytes : List (List ℕ)) (ended : Result Outcome Stop) → o.from_graph ≡ true
    → IsDecision ((graph_matrix_tool p o.file).Reports bytes) ended → IsDecision ((test_tool p o).Reports bytes) ended
decides_on_graph p o bytes ended graph decided =
    subst (λ (b : Bool). IsDecision ((either_tool b (graph_matrix_tool p o.file) (path_tool p o)).Reports bytes) ended) (sym graph) decided

-- without `-c` it decides on the matrix
pub decides_on_matrix : (p : TestedProperty) (o : TestOrder) (bytes : List (List ℕ)) (ended : Result Outcome Stop) → o.from_graph ≡ false
    → IsDecision ((path_tool p o).Reports bytes) ended → IsDecision ((test_tool p o).Reports bytes) ended
decides_on_matrix p o bytes ended plain decided =
    subst (λ (b : Bool). IsDecision ((either_tool b (graph_matrix_tool p o.file) (path_tool p o)).Reports bytes) ended) (sym plain) decided
