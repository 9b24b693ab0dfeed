use Rattle.cmr_reach.proofs.ComposeAnswers.{compose_has_one_report}
use Rattle.cmr_reach.proofs.FaultReports.{balanced_has_one_report, camion_has_one_report}
use Rattle.cmr_reach.proofs.PartsAnswers.{parts_has_one_report}
use Rattle.cmr_reach.proofs.SignAnswers.{sign_has_one_report}
use Rattle.cmr_reach.proofs.laws.reports_are_one.Goals as goal

pub returns-clause-camion : goal.returns-clause-camion
returns-clause-camion c = camion_has_one_report

pub returns-clause-sign : goal.returns-clause-sign
returns-clause-sign c = sign_has_one_report

pub returns-clause-balanced : goal.returns-clause-balanced
returns-clause-balanced c = balanced_has_one_report

pub returns-clause-parts : goal.returns-clause-parts
returns-clause-parts c = parts_has_one_report

pub returns-clause-compose : goal.returns-clause-compose
returns-clause-compose c = compose_has_one_report
