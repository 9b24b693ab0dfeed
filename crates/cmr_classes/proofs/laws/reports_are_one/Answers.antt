use Rattle.cmr_classes.proofs.SeriesParallelAnswers.{series_parallel_has_one_report}
use Rattle.cmr_classes.proofs.laws.reports_are_one.Goals as goal

pub returns : goal.returns
returns c = record { series_parallel = series_parallel_has_one_report }
