use Rattle.std.proofs.lemmas.Result.{on_ok_weaker}
use Rattle.line_growth.specs.Rules.{lower_of, upper_of}
use Rattle.line_growth.proofs.Sweeps.{less_work}
use Rattle.line_growth.proofs.growing_set.GrowingSet.take_pulls.Goals as goal

pub returns-then-has_more_waiting-clause-less : goal.returns-then-has_more_waiting-clause-less
returns-then-has_more_waiting-clause-less c =
    let m = c.args.matrix.now in
    on_ok_weaker c.sweep.result
    (less_work m (upper_of m c.args.rule) (lower_of m c.args.rule) c.args.self.now c.sweep.new.self c.requires.size c.sweep.ensures.size c.requires.waits)
    c.sweep.ensures.swept
