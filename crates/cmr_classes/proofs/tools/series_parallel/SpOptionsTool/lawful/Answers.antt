use Rattle.cmr_classes.specs.SeriesParallel.{series_parallel_order_of}
use Rattle.cmr_classes.proofs.SeriesParallelAnswers.{series_parallel_lawful}
use Rattle.cmr_classes.proofs.tools.series_parallel.SpOptionsTool.lawful.Goals as goal

pub returns : goal.returns
returns c = series_parallel_lawful (series_parallel_order_of c.args.self.now)
