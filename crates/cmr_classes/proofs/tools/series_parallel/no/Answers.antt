use Rattle.std.proofs.lemmas.Result.{IfOk-weaker}
use Rattle.cmr_classes.specs.SeriesParallel.{no}
use Rattle.cmr_classes.proofs.tools.series_parallel.no.Goals as goal

pub returns : goal.returns
returns c =
    IfOk-weaker c.no_outcome.result _ _ (λ outcome is. no c.in_ok-minimal.minimal (record { lacks = c.requires.lacks; asked = c.in_ok-minimal.ensures.asked }) is) c.no_outcome.ensures
