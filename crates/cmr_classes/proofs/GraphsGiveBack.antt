-- A graph that `graphic` or `network` wrote gives the matrix back.
use Rattle.std.proofs.Common.{◌≡◌, ◌≤◌, ◌∙◌, ℕ, Bool, List, [], ◌∷◌, Option, Some, Ok, false, length, refl, ap, sym, subst, arith}
use Rattle.std.specs.Prelude.{if◌then◌else◌}
use Rattle.cmr_base.specs.Matrix.{Matrix, height, IsMatrix}
use Rattle.cmr_base.specs.declared.network.Network.{Network as Net}
use Rattle.text_fields.specs.TextWords.{text_of, words_from}
use Rattle.graph_text.specs.declared.read.SizedNetwork.{SizedNetwork}
use Rattle.graph_text.specs.GraphTexts.{graph_text}
use Rattle.graph_text.specs.GraphReading.{IsGraph}
use Rattle.graph_text.proofs.ReadAgain.{graph_again}
use Rattle.graph_text.proofs.TextLengths.{graph_text_within}
use Rattle.graph_text.proofs.WrittenEdges.{written_is_text}
use Rattle.cmr_front.specs.declared.matrix_file.MatrixForm.{MatrixForm}
use Rattle.cmr_front.specs.declared.outcome.FaultKind.TheVariants as faults
use Rattle.cmr_front.specs.Inputs.{Given, and_then, given, not_there, texts, too_much}
use Rattle.cmr_front.specs.MatrixText.{matrix_file, matrix_in}
use Rattle.cmr_front.specs.Report.{File, Held, Report, asked_file, with_files}
use Rattle.cmr_front.specs.Run.{ReportsGiven, ReportsHeld}
use Rattle.cmr_front.proofs.HeldTexts.{read_whole, same_name}
use Rattle.cmr_front.proofs.MatrixText.{read_is_binary, read_is_matrix}
use Rattle.cmr_front.proofs.Statuses.{status_of}
use Rattle.cmr_front.proofs.Texts.{answered}
use Rattle.cmr_classes.specs.declared.tools.graphic_network.TestedProperty.{TestedProperty}
use Rattle.cmr_classes.specs.declared.tools.graphic_network.TestedProperty.TheVariants.{Graphic, Network}
use Rattle.cmr_front.specs.declared.status.Answer.TheVariants.{Yes}
use Rattle.cmr_front.specs.Status.{answer_status}
use Rattle.cmr_classes.specs.GraphicNetwork.{IsTestable, Shows, TestDecides, is_binary, yes, no, path_tool, tested_matrix, written_graph, TestOrder}
use Rattle.cmr_classes.specs.GraphMatrix.{IsMatrixOf, either_tool, graph_matrix_report, graph_matrix_tool}
use Rattle.cmr_classes.specs.GraphsGiveBack.{FileGivesMatrix, GivesMatrix, GraphFilesGiveBack, GraphsGiveBack, HeldGraphsGiveBack}
use Rattle.cmr_classes.proofs.GraphicNetworkAnswers.{shown_network}
use Rattle.cmr_classes.proofs.GraphMatrixAnswers.{one_graph_matrix}

gives_matrix : (p : TestedProperty) (net : Net) (m : Matrix) → IsMatrix m → IsTestable p m → Shows p net m → GivesMatrix p (graph_text net) m
gives_matrix p net m is testable shows file =
    let sized : SizedNetwork = record { net = net; rows = height m; columns = m.width } in
    let text = graph_text net in
    let read : IsGraph (text_of text) (Ok sized) = graph_again (length text) (words_from 0 text) sized (written_is_text sized is.height_in is.width_in (shown_network p net m shows)) in
    let of_net : IsMatrixOf p sized m = record { is_matrix = is; rows = refl; columns = refl; testable = testable; shows = shows } in
    let reports : (graph_matrix_tool p file).Reports (text ∷ []) (graph_matrix_report m) = (Ok sized, read, (m, of_net, refl)) in
    (reports, λ other h. one_graph_matrix p file (text ∷ []) other (graph_matrix_report m) h reports)

-- the file of a yes, and its network, which shows the property of the matrix
record IsWritten (p : TestedProperty) (m : Matrix) (report : Report) (name : List ℕ) : Type 0 where
  net : Net
  files : report.files ≡ record { name = name; bytes = graph_text net } ∷ []
  shows : Shows p net m

is_written : (p : TestedProperty) (o : TestOrder) (m : Matrix) (report : Report) (name : List ℕ) → o.transposed ≡ false → o.graph ≡ Some name
    → TestDecides p o m report → report.status ≡ answer_status Yes → IsWritten p m report name
is_written p o m report name plain asked (yes net shown e) status = record {
  net = net;
  files = ap (λ (r : Report). r.files) e ∙ ap (λ (g : Option (List ℕ)). asked_file g (written_graph o.transposed net)) asked ∙ ap (λ (t : Bool). asked_file (Some name) (written_graph t net)) plain;
  shows = subst (λ (t : Bool). Shows p net (tested_matrix t m)) plain shown.shows;
}
is_written p o m report name plain asked (no minimal lacks e) status = let s = status_of report _ e in absurd (omega arith)

pub graphs_give_back : GraphsGiveBack
graphs_give_back p o m report name is testable plain asked decides status =
    let written = is_written p o m report name plain asked decides status in
    (graph_text written.net, written.files, gives_matrix p written.net m is testable written.shows)

-- ---- when the text is in its file

one_read : (held : Held) (file : File) → length file.bytes ≤ 16777216 → given (with_files held (file ∷ [])) (matrix_file file.name ∷ []) ≡ texts (file.bytes ∷ [])
one_read held file few =
    let written = with_files held (file ∷ []) in
    let here : written file.name ≡ Some file.bytes = ap (λ (b : Bool). if b then Some file.bytes else held file.name) (same_name file.name) in
    ap (λ x. and_then file.name x (texts [])) (read_whole written (matrix_file file.name) file.bytes here few)

file_gives : (p : TestedProperty) (net : Net) (m : Matrix) (name : List ℕ) (held : Held) → IsMatrix m → IsTestable p m → Shows p net m → FileGivesMatrix p name (with_files held (record { name = name; bytes = graph_text net } ∷ [])) m
file_gives p net m name held is testable shows =
    let sized : SizedNetwork = record { net = net; rows = height m; columns = m.width } in
    let gives = gives_matrix p net m is testable shows name in
    let read = one_read held (record { name = name; bytes = graph_text net }) (graph_text_within sized is.height_in is.width_in (shown_network p net m shows)) in
    let tool = graph_matrix_tool p name in
    (subst (λ (g : Given). ReportsGiven tool g (graph_matrix_report m)) (sym read) gives.0, λ other h. gives.1 other (subst (λ (g : Given). ReportsGiven tool g other) read h))

pub graph_files_give_back : GraphFilesGiveBack
graph_files_give_back p o m report name held is testable plain asked decides status =
    let written = is_written p o m report name plain asked decides status in
    subst (λ (files : List File). FileGivesMatrix p name (with_files held files) m) (sym written.files) (file_gives p written.net m name held is testable written.shows)

-- ---- from the text of the matrix

-- the matrix that was read is tested
read_is_testable : (p : TestedProperty) (form : MatrixForm) (bytes : List ℕ) (m : Matrix) → matrix_in form (is_binary p) bytes ≡ Ok m → IsTestable p m
read_is_testable Graphic form bytes m read = read_is_binary form bytes m read
read_is_testable Network form bytes m read = tt

-- a yes comes from one text, which represents a matrix
matrix_read : (p : TestedProperty) (o : TestOrder) (read : Given) (report : Report) → ReportsGiven (path_tool p o) read report → report.status ≡ answer_status Yes
    → (bytes : List ℕ) × (read ≡ texts (bytes ∷ [])) × (m : Matrix) × (matrix_in o.form (is_binary p) bytes ≡ Ok m) × TestDecides p o m report
matrix_read p o (not_there name) report reports status = absurd reports
matrix_read p o (too_much name) report reports status = let s = status_of report _ reports in absurd (omega arith)
matrix_read p o (texts []) report reports status = absurd reports
matrix_read p o (texts (bytes ∷ [])) report reports status =
    let found = answered faults.Matrix o.file (TestDecides p o) (matrix_in o.form (is_binary p) bytes) report Yes reports status in
    (bytes, refl, found.0, found.1, found.2)
matrix_read p o (texts (bytes ∷ other ∷ others)) report reports status = absurd reports

pub held_graphs_give_back : HeldGraphsGiveBack
held_graphs_give_back p o name held report tests plain asked reports status =
    let tested = subst (λ (from_graph : Bool). ReportsHeld (either_tool from_graph (graph_matrix_tool p o.file) (path_tool p o)) held report) tests reports in
    let read = matrix_read p o (given held (matrix_file o.file ∷ [])) report tested status in
    record {
      matrix_text = read.0;
      held_text = read.1;
      matrix = read.2;
      matrix_is = read.3;
      gives_back = graph_files_give_back p o read.2 report name held (read_is_matrix o.form (is_binary p) read.0 read.2 read.3) (read_is_testable p o.form read.0 read.2 read.3) plain asked read.4 status;
    }
