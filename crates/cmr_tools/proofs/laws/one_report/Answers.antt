use Rattle.cmr_tools.proofs.ReportsOfOrders.{reports_are_alike, reports_are_one}
use Rattle.cmr_tools.proofs.laws.one_report.Goals as goal

pub returns-clause-alike : goal.returns-clause-alike
returns-clause-alike c = reports_are_alike

pub returns-clause-one : goal.returns-clause-one
returns-clause-one c = reports_are_one
