use Rattle.reports_exist.proofs.OrderReports.{order_has_report}
use Rattle.reports_exist.proofs.laws.orders_have_reports.Goals as goal

pub returns : goal.returns
returns c = λ order bytes range count none. order_has_report c.one_answer.ensures.either order bytes range count (λ report. none report.0 report.1)
