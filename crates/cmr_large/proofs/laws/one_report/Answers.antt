use Rattle.cmr_large.proofs.OneLargeReport.{large_reports_are_one}
use Rattle.cmr_large.proofs.laws.one_report.Goals as goal

pub returns : goal.returns
returns c = large_reports_are_one
