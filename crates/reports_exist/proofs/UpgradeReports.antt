-- `upgrade` has a report on each text.
use Rattle.std.proofs.Common.{◌≡◌, ℕ, List, length}
use Rattle.text_fields.specs.TextWords.{text_of}
use Rattle.tree_text.specs.TreeReading.{tree}
use Rattle.cmr_front.specs.declared.outcome.FaultKind.TheVariants as faults
use Rattle.cmr_front.specs.Evidence.{ReportsTree}
use Rattle.cmr_evidence.specs.Upgrade.{UpgradeDecides, UpgradeOrder, upgrade_report, upgrade_tool}
use Rattle.reports_exist.proofs.TextReports.{HasReport, on_one, on_text, this_report}

pub upgrade_has_report : (o : UpgradeOrder) (texts : List (List ℕ)) → length texts ≡ 1 → HasReport ((upgrade_tool o).Reports texts)
upgrade_has_report o texts count = on_one (ReportsTree o.evidence (UpgradeDecides o.tree)) (λ bytes. on_text faults.Tree o.evidence (UpgradeDecides o.tree) (tree (text_of bytes)) (λ t e. this_report (upgrade_report o.tree t))) texts count
