use Rattle.std.proofs.Common.{arith}
use Rattle.std.proofs.lemmas.Result.{IfOk-weaker}
use Rattle.cmr_classes.specs.SeriesParallel.{yes}
use Rattle.cmr_classes.proofs.SeriesParallelAnswers.{series_parallel_without_rest, rest_of_series_parallel}
use Rattle.cmr_classes.proofs.tools.series_parallel.test.Goals.{else-len-eq0-via-then-len-eq0+else-len-eq0-2, else-len-eq0-via-else-len-eq0}
use Rattle.cmr_classes.proofs.tools.series_parallel.test.Goals as goal

pub returns-then-len-eq0-2 : goal.returns-then-len-eq0-2
returns-then-len-eq0-2 c =
    let reduced = c.in_ok-reduction.ensures in
    let holds = series_parallel_without_rest c.args.options.now.binary c.args.matrix.now c.in_ok-reduction.reduction.rest.rows c.in_ok-reduction.reduction.rest.columns reduced.rows reduced.columns
    (omega (arith, c.if-len-eq0.true, c.len.ensures.len)) (omega (arith, c.if-len-eq0-2.true, c.len-then-len-eq0.ensures.len)) in
    IfOk-weaker c.yes.result _ _ (λ outcome is. yes holds is) c.yes.ensures

pub no-requires-clause-lacks : goal.no-requires-clause-lacks
no-requires-clause-lacks c = λ holds.
    let reduced = c.in_ok-reduction.ensures in
    let none = rest_of_series_parallel c.args.options.now.binary c.args.matrix.now c.in_ok-reduction.reduction.rest.rows c.in_ok-reduction.reduction.rest.columns reduced.rows reduced.columns holds in
    elim c.else-len-eq0.branch [
      | else-len-eq0-via-then-len-eq0+else-len-eq0-2 w ↦ omega (arith, none.1, w.if-len-eq0-2.false, w.len-then-len-eq0.ensures.len)
      | else-len-eq0-via-else-len-eq0 w ↦ omega (arith, none.0, w.if-len-eq0.false, c.len.ensures.len)
    ]
