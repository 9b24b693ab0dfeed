-- Each order has a report.
use Rattle.std.proofs.Common.{◌≡◌, ℕ, List, length, ap, ◌∙◌}
use Rattle.cmr_classes.proofs.GraphMatrixAnswers.{test_inputs}
use Rattle.cmr_tools.specs.ToolOrders.{Order, balanced, camion, check, compose, generate, parts, regular, series_parallel, sign, test, tool_of, tu, upgrade}
use Rattle.tree_type.specs.Laws.{SoundOrBroken}
use Rattle.reports_exist.proofs.BalancedReports.{balanced_has_report}
use Rattle.reports_exist.proofs.CamionReports.{camion_has_report}
use Rattle.reports_exist.proofs.CheckReports.{check_has_report}
use Rattle.reports_exist.proofs.ComposeReports.{compose_has_report}
use Rattle.reports_exist.proofs.GenerateReports.{generate_has_report}
use Rattle.reports_exist.proofs.GraphReports.{test_has_report}
use Rattle.reports_exist.proofs.PartsReports.{parts_has_report}
use Rattle.reports_exist.proofs.RegularReports.{regular_has_report}
use Rattle.reports_exist.proofs.SeriesParallelReports.{series_parallel_has_report}
use Rattle.reports_exist.proofs.SignReports.{sign_has_report}
use Rattle.reports_exist.proofs.TextReports.{HasReport}
use Rattle.reports_exist.proofs.UnimodularReports.{tu_has_report}
use Rattle.reports_exist.proofs.UpgradeReports.{upgrade_has_report}

pub order_has_report : SoundOrBroken → (order : Order) (bytes : List (List ℕ)) → (tool_of order).InRanges → length bytes ≡ length (tool_of order).inputs → HasReport ((tool_of order).Reports bytes)
order_has_report either (tu o) bytes range count = tu_has_report o range.0 bytes count
order_has_report either (regular o) bytes range count = regular_has_report o range.0 bytes count
order_has_report either (series_parallel o) bytes range count = series_parallel_has_report o bytes count
order_has_report either (test p o) bytes range count = test_has_report p o bytes (count ∙ ap length (test_inputs p o))
order_has_report either (generate o) bytes range count = generate_has_report o range bytes
order_has_report either (check o) bytes range count = check_has_report either o bytes count
order_has_report either (upgrade o) bytes range count = upgrade_has_report o bytes count
order_has_report either (camion o) bytes range count = camion_has_report o bytes count
order_has_report either (sign o) bytes range count = sign_has_report o bytes count
order_has_report either (balanced o) bytes range count = balanced_has_report o range.budget bytes count
order_has_report either (parts o) bytes range count = parts_has_report either o bytes count
order_has_report either (compose o) bytes range count = compose_has_report o bytes count
