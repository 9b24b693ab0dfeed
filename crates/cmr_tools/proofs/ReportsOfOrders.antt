-- What the arguments and the texts determine of a report, tool by tool.
use Rattle.std.proofs.Common.{◌≡◌, ℕ, true, inl, inr, refl, subst, sym}
use Rattle.cmr_front.specs.AlikeReports.{HasAlikeReports}
use Rattle.cmr_front.specs.Tool.{HasOneReport}
use Rattle.cmr_front.proofs.AlikeReports.{one_is_alike, reports_wider}
use Rattle.cmr_classes.specs.AlikeNetworks.{HoldAlikeNetworks}
use Rattle.cmr_classes.specs.GraphMatrix.{either_tool, graph_matrix_tool, test_tool}
use Rattle.cmr_classes.specs.GraphicNetwork.{TestOrder, path_tool}
use Rattle.cmr_classes.specs.declared.tools.graphic_network.TestedProperty.{TestedProperty}
use Rattle.cmr_classes.proofs.AlikeNetworks.{test_alike, test_has_one_report}
use Rattle.cmr_classes.proofs.GraphMatrixAnswers.{one_graph_matrix}
use Rattle.cmr_classes.proofs.SeriesParallelAnswers.{series_parallel_has_one_report}
use Rattle.cmr_unimodular.specs.AlikeTrees.{HoldAlikeTrees}
use Rattle.cmr_unimodular.proofs.AlikeTrees.{generate_has_one_report, regular_alike, regular_has_one_report, same_file, tu_alike, tu_has_one_report}
use Rattle.cmr_evidence.proofs.OneCheck.{check_has_one_report}
use Rattle.cmr_evidence.proofs.UpgradeAnswers.{upgrade_has_one_report}
use Rattle.cmr_unimodular.proofs.WorkersOfTests.{generate_workers, regular_workers}
use Rattle.cmr_reach.proofs.ComposeAnswers.{compose_has_one_report}
use Rattle.cmr_reach.proofs.FaultReports.{balanced_has_one_report, balanced_workers, camion_has_one_report}
use Rattle.cmr_reach.proofs.PartsAnswers.{parts_has_one_report}
use Rattle.cmr_reach.proofs.SignAnswers.{sign_has_one_report}
use Rattle.cmr_tools.specs.ReportLaws.{AreReportedAlike, HoldAlike, ReportsAreAlike, ReportsAreOne, WorkersChangeNothing, networks, trees}
use Rattle.cmr_tools.specs.ToolOrders.{Order, balanced, camion, check, compose, generate, parts, regular, series_parallel, sign, test, tool_of, tu, upgrade}

-- with `-c`, or without a file for the graph
test_is_one : (p : TestedProperty) (o : TestOrder) → o.from_graph ≡ true → HasOneReport (test_tool p o)
test_is_one p o graph = subst (λ b. HasOneReport (either_tool b (graph_matrix_tool p o.file) (path_tool p o))) (sym graph) (one_graph_matrix p o.file)

pub reports_are_one : ReportsAreOne
reports_are_one (tu o) none = tu_has_one_report o none
reports_are_one (regular o) none = regular_has_one_report o none
reports_are_one (series_parallel o) none = series_parallel_has_one_report o
reports_are_one (test p o) (inl graph) = test_is_one p o graph
reports_are_one (test p o) (inr none) = test_has_one_report p o none
reports_are_one (generate o) none = generate_has_one_report o
reports_are_one (check o) none = check_has_one_report o
reports_are_one (upgrade o) none = upgrade_has_one_report o
reports_are_one (camion o) none = camion_has_one_report o
reports_are_one (sign o) none = sign_has_one_report o
reports_are_one (balanced o) none = balanced_has_one_report o
reports_are_one (parts o) none = parts_has_one_report o
reports_are_one (compose o) none = compose_has_one_report o

alike_where_one : (order : Order) → HasOneReport (tool_of order) → HasAlikeReports HoldAlike (tool_of order)
alike_where_one order one = one_is_alike HoldAlike (λ file. trees (same_file file)) (tool_of order) one

alike_trees : (order : Order) → HasAlikeReports HoldAlikeTrees (tool_of order) → HasAlikeReports HoldAlike (tool_of order)
alike_trees order alike = reports_wider HoldAlikeTrees HoldAlike (λ f g. trees) (tool_of order) alike

alike_networks : (order : Order) → HasAlikeReports HoldAlikeNetworks (tool_of order) → HasAlikeReports HoldAlike (tool_of order)
alike_networks order alike = reports_wider HoldAlikeNetworks HoldAlike (λ f g. networks) (tool_of order) alike

pub reports_are_alike : ReportsAreAlike
reports_are_alike (tu o) = alike_trees (tu o) (tu_alike o)
reports_are_alike (regular o) = alike_trees (regular o) (regular_alike o)
reports_are_alike (series_parallel o) = alike_where_one (series_parallel o) (series_parallel_has_one_report o)
reports_are_alike (test p o) = alike_networks (test p o) (test_alike p o)
reports_are_alike (generate o) = alike_where_one (generate o) (generate_has_one_report o)
reports_are_alike (check o) = alike_where_one (check o) (check_has_one_report o)
reports_are_alike (upgrade o) = alike_where_one (upgrade o) (upgrade_has_one_report o)
reports_are_alike (camion o) = alike_where_one (camion o) (camion_has_one_report o)
reports_are_alike (sign o) = alike_where_one (sign o) (sign_has_one_report o)
reports_are_alike (balanced o) = alike_where_one (balanced o) (balanced_has_one_report o)
reports_are_alike (parts o) = alike_where_one (parts o) (parts_has_one_report o)
reports_are_alike (compose o) = alike_where_one (compose o) (compose_has_one_report o)

-- ---- the workers

itself : (order : Order) → AreReportedAlike (tool_of order) (tool_of order)
itself order = record { inputs = refl; reports = λ bytes report. ((λ h. h), (λ h. h)) }

pub workers_change_nothing : WorkersChangeNothing
workers_change_nothing (tu o) n = record { inputs = refl; reports = λ bytes report. ((λ h. h), (λ h. h)) }
workers_change_nothing (regular o) n = record {
  inputs = refl;
  reports = λ bytes report. (
    regular_workers o n o.workers bytes report,
    regular_workers o o.workers n bytes report,
  );
}
workers_change_nothing (series_parallel o) n = itself (series_parallel o)
workers_change_nothing (test p o) n = itself (test p o)
workers_change_nothing (generate o) n = record { inputs = refl; reports = λ bytes report. (generate_workers o n o.workers report, generate_workers o o.workers n report) }
workers_change_nothing (check o) n = itself (check o)
workers_change_nothing (upgrade o) n = itself (upgrade o)
workers_change_nothing (camion o) n = itself (camion o)
workers_change_nothing (sign o) n = itself (sign o)
workers_change_nothing (balanced o) n = record {
  inputs = refl;
  reports = λ bytes report. (
    balanced_workers o n o.workers bytes report,
    balanced_workers o o.workers n bytes report,
  );
}
workers_change_nothing (parts o) n = itself (parts o)
workers_change_nothing (compose o) n = itself (compose o)
