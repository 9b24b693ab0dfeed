-- `graphic` and `network` have a report on each graph text.
use Rattle.std.proofs.Common.{◌≡◌, ◌∙◌, inl, inr, ℕ, Bool, true, false, List, length, Result, Ok, Err, refl, subst, sym}
use Rattle.cmr_base.specs.Matrix.{Matrix, height}
use Rattle.cmr_base.specs.Trees.{IsTree}
use Rattle.cmr_base.proofs.FilledMatrices.{height-filled}
use Rattle.text_fields.specs.Reading.{Fault}
use Rattle.text_fields.specs.TextWords.{text_of}
use Rattle.graph_text.specs.declared.error.GraphKind.{GraphKind}
use Rattle.graph_text.specs.declared.error.GraphKind.TheVariants.{NotTree}
use Rattle.graph_text.specs.declared.read.SizedNetwork.{SizedNetwork}
use Rattle.graph_text.specs.GraphReading.{network_in}
use Rattle.graph_text.specs.GraphTexts.{IsGraphText}
use Rattle.graph_text.specs.SupportMatrix.{one_at}
use Rattle.graph_text.proofs.FoundTexts.{graph_found}
use Rattle.graph_text.proofs.SupportCells.{ones, ones_are_binary, ones_are_matrix, ones_reproduced}
use Rattle.cmr_front.specs.declared.outcome.FaultKind.TheVariants as faults
use Rattle.cmr_front.specs.GraphText.{ReportsGraph}
use Rattle.cmr_front.specs.Outcome.{bad_text}
use Rattle.cmr_classes.specs.declared.tools.graphic_network.TestedProperty.{TestedProperty}
use Rattle.cmr_classes.specs.declared.tools.graphic_network.TestedProperty.TheVariants.{Graphic, Network}
use Rattle.cmr_classes.specs.GraphMatrix.{GraphDecides, IsMatrixOf, graph_matrix_report, graph_matrix_tool, either_tool, test_tool}
use Rattle.cmr_classes.specs.GraphicNetwork.{TestOrder, path_tool}
use Rattle.decompositions_exist.proofs.NotExcluded.{one_of_two}
use Rattle.reports_exist.proofs.NetworkMatrices.{network_height, network_is_matrix, network_matrix, network_reproduces, network_width}
use Rattle.reports_exist.proofs.PathReports.{path_has_report}
use Rattle.reports_exist.proofs.TextReports.{HasReport, on_one}

matrix_of : (p : TestedProperty) (net : SizedNetwork) (words : List (List ℕ)) → IsGraphText words net → (m : Matrix) × IsMatrixOf p net m
matrix_of Network net words is =
    let m = network_matrix net.net net.rows net.columns is.network in (
      m,
      record {
        is_matrix = network_is_matrix net.net net.rows net.columns is.network is.rows_in is.columns_in;
        rows = network_height net.net net.rows net.columns is.network;
        columns = network_width net.net net.rows net.columns is.network;
        testable = tt;
        shows = network_reproduces net.net net.rows net.columns is.network;
      },
    )
matrix_of Graphic net words is =
    let m = network_matrix net.net net.rows net.columns is.network in (
      ones m,
      record {
        is_matrix = ones_are_matrix m (network_is_matrix net.net net.rows net.columns is.network is.rows_in is.columns_in);
        rows = height-filled (height m) m.width (one_at m) ∙ network_height net.net net.rows net.columns is.network;
        columns = network_width net.net net.rows net.columns is.network;
        testable = ones_are_binary m;
        shows = ones_reproduced m net.net (network_reproduces net.net net.rows net.columns is.network);
      },
    )

module _ (p : TestedProperty) (file : List ℕ) where
  by_reading : (bytes : List ℕ) (read : Result SizedNetwork (Fault GraphKind)) → network_in (text_of bytes) ≡ read → HasReport (ReportsGraph file (GraphDecides p) bytes)
  by_reading bytes (Err fault) e none = none (bad_text file (faults.Graph fault.0) fault.1, (Err fault, inl e, refl))
  by_reading bytes (Ok net) e none = one_of_two (IsTree net.net.arcs net.rows) (λ either. elim either [
    | inl tree ↦
        let m = matrix_of p net _ (graph_found (text_of bytes).size (text_of bytes).words net e tree) in
        none (graph_matrix_report m.0, (Ok net, (e, tree), (m.0, m.1, refl)))
    | inr other ↦ none (bad_text file (faults.Graph NotTree) (text_of bytes).size, (Err (NotTree, (text_of bytes).size), inr (refl, (net, e, other)), refl))
  ])

  graph_has_report : (texts : List (List ℕ)) → length texts ≡ 1 → HasReport ((graph_matrix_tool p file).Reports texts)
  graph_has_report = on_one (ReportsGraph file (GraphDecides p)) (λ bytes. by_reading bytes (network_in (text_of bytes)) refl)

pub test_has_report : (p : TestedProperty) (o : TestOrder) (texts : List (List ℕ)) → length texts ≡ 1 → HasReport ((test_tool p o).Reports texts)
test_has_report p o texts count = go o.from_graph refl
  where
    go : (b : Bool) → o.from_graph ≡ b → HasReport ((test_tool p o).Reports texts)
    go true e = subst (λ b. HasReport ((either_tool b (graph_matrix_tool p o.file) (path_tool p o)).Reports texts)) (sym e) (graph_has_report p o.file texts count)
    go false e = subst (λ b. HasReport ((either_tool b (graph_matrix_tool p o.file) (path_tool p o)).Reports texts)) (sym e) (path_has_report p o texts count)
