use Rattle.cmr_evidence.proofs.OneCheck.{check_has_one_report}
use Rattle.cmr_evidence.proofs.UpgradeAnswers.{upgrade_has_one_report}
use Rattle.cmr_evidence.proofs.laws.reports_are_one.Goals as goal

pub returns-clause-check : goal.returns-clause-check
returns-clause-check c = check_has_one_report

pub returns-clause-upgrade : goal.returns-clause-upgrade
returns-clause-upgrade c = upgrade_has_one_report
