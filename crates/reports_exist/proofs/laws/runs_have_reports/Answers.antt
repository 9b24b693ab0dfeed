use Rattle.reports_exist.proofs.RunReports.{runs_have_reports}
use Rattle.reports_exist.proofs.laws.runs_have_reports.Goals as goal

pub returns : goal.returns
returns c = runs_have_reports c.one_answer.ensures.either
