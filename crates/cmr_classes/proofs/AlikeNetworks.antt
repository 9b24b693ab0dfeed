-- The arguments and the texts determine the reports of `graphic` and `network`, except which network shows the property.
use Rattle.std.proofs.Common.{◌≡◌, ◌∙◌, ℕ, Bool, true, false, List, [], Option, Some, None, refl, ap, sym}
use Rattle.std.specs.Prelude.{option_map}
use Rattle.cmr_base.specs.Matrix.{Matrix}
use Rattle.cmr_base.specs.declared.line_set.LineSet.{LineSet}
use Rattle.cmr_base.specs.declared.network.Network.{Network as Net}
use Rattle.cmr_front.specs.AlikeReports.{AllAlike, DifferInFiles, HasAlikeReports}
use Rattle.cmr_front.specs.Report.{File, Report, asked_file}
use Rattle.cmr_front.specs.Tool.{HasOneReport}
use Rattle.cmr_front.proofs.AlikeReports.{alike_reports, equal_reports, one_is_alike}
use Rattle.cmr_front.proofs.MinimalSets.{one_minimal}
use Rattle.cmr_front.proofs.OneReports.{alike_of_matrix, one_report_of_matrix}
use Rattle.cmr_classes.specs.declared.tools.graphic_network.TestedProperty.{TestedProperty}
use Rattle.cmr_classes.specs.AlikeNetworks.{HoldAlikeNetworks, networks, same}
use Rattle.cmr_classes.specs.GraphicNetwork.{Has, IsLacking, IsShown, TestDecides, TestMeans, TestOrder, path_tool, test_no, test_source, test_yes, tested_lines, tested_matrix, written_graph}
use Rattle.cmr_classes.specs.GraphicNetwork as tests
use Rattle.cmr_classes.specs.GraphMatrix.{either_tool, graph_matrix_tool, test_tool}
use Rattle.cmr_classes.proofs.GraphMatrixAnswers.{one_graph_matrix}

pub same_file : (f : File) → HoldAlikeNetworks f f
same_file f = same refl

-- the lines of the tested matrix are lines of the given matrix, and the other way round
pub lines_back : (transposed : Bool) (found : Option LineSet) → option_map (tested_lines transposed) (option_map (tested_lines transposed) found) ≡ found
lines_back true None = refl
lines_back true (Some lines) = refl
lines_back false None = refl
lines_back false (Some lines) = refl

module _ (p : TestedProperty) (o : TestOrder) (m : Matrix) where
  one_lacking : (minimal other : Option LineSet) → IsLacking p o m minimal → IsLacking p o m other → minimal ≡ other
  one_lacking minimal other a b =
      let tested = option_map (tested_lines o.transposed) in
      sym (lines_back o.transposed minimal)
      ∙ ap tested (one_minimal (Has p) (tested_matrix o.transposed m) o.minimal (tested minimal) (tested other) a.asked b.asked) ∙ lines_back o.transposed other

  graph_files_alike : (net other : Net) → IsShown p o m net → IsShown p o m other → (name : Option (List ℕ))
      → AllAlike HoldAlikeNetworks (asked_file name (written_graph o.transposed net)) (asked_file name (written_graph o.transposed other))
  graph_files_alike net other is is' None = tt
  graph_files_alike net other is is' (Some name) = (networks refl p o.transposed m net other is.shows is'.shows refl refl, tt)

  tested_alike : (r s : Report) → TestDecides p o m r → TestDecides p o m s → DifferInFiles HoldAlikeNetworks r s
  tested_alike r s (tests.yes net is e) (tests.yes other is' f) =
      alike_reports HoldAlikeNetworks r (test_yes p o net) s (test_yes p o other) e f (record { status = refl; output = refl; error = refl; files = graph_files_alike net other is is' o.graph })
  tested_alike r s (tests.yes net is e) (tests.no minimal lacks f) = absurd (lacks.lacks is.has)
  tested_alike r s (tests.no minimal lacks e) (tests.yes net is f) = absurd (lacks.lacks is.has)
  tested_alike r s (tests.no minimal lacks e) (tests.no minimal' lacks' f) = equal_reports HoldAlikeNetworks same_file r s (e ∙ ap (test_no p o m) (one_lacking minimal minimal' lacks lacks') ∙ sym f)

  -- if no graph is written
  one_yes : o.graph ≡ None → (net other : Net) → test_yes p o net ≡ test_yes p o other
  one_yes none net other = plain net ∙ sym (plain other)
    where
      yes_with : List File → Report
      yes_with files = record { status = (test_yes p o net).status; output = (test_yes p o net).output; error = []; files = files }

      plain : (shown : Net) → test_yes p o shown ≡ yes_with []
      plain shown = ap yes_with (ap (λ name. asked_file name (written_graph o.transposed shown)) none)

  tested_equal : o.graph ≡ None → (r s : Report) → TestDecides p o m r → TestDecides p o m s → r ≡ s
  tested_equal none r s (tests.yes net is e) (tests.yes other is' f) = e ∙ one_yes none net other ∙ sym f
  tested_equal none r s (tests.yes net is e) (tests.no minimal lacks f) = absurd (lacks.lacks is.has)
  tested_equal none r s (tests.no minimal lacks e) (tests.yes net is f) = absurd (lacks.lacks is.has)
  tested_equal none r s (tests.no minimal lacks e) (tests.no minimal' lacks' f) = e ∙ ap (test_no p o m) (one_lacking minimal minimal' lacks lacks') ∙ sym f

-- with `-c` or without
pub test_alike : (p : TestedProperty) (o : TestOrder) → HasAlikeReports HoldAlikeNetworks (test_tool p o)
test_alike p o = go o.from_graph
  where
    go : (b : Bool) → HasAlikeReports HoldAlikeNetworks (either_tool b (graph_matrix_tool p o.file) (path_tool p o))
    go true = one_is_alike HoldAlikeNetworks same_file (graph_matrix_tool p o.file) (one_graph_matrix p o.file)
    go false = alike_of_matrix (DifferInFiles HoldAlikeNetworks) (equal_reports HoldAlikeNetworks same_file) (test_source p o) (TestDecides p o) (λ m is. tested_alike p o m)

pub test_has_one_report : (p : TestedProperty) (o : TestOrder) → o.graph ≡ None → HasOneReport (test_tool p o)
test_has_one_report p o none = go o.from_graph
  where
    go : (b : Bool) → HasOneReport (either_tool b (graph_matrix_tool p o.file) (path_tool p o))
    go true = one_graph_matrix p o.file
    go false = one_report_of_matrix (test_source p o) (Unit {0}) (TestDecides p o) (TestMeans p o) (λ m is. tested_equal p o m none)
