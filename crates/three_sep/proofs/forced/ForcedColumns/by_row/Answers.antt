use Rattle.std.proofs.Common.{◌∙◌, ap}
use Rattle.cmr_base.specs.Matrix.{Matrix}
use Rattle.three_sep.proofs.forced.ForcedColumns.by_row.Goals as goal

pub loop-round-init : goal.loop-round-init
loop-round-init c = (c.in_ok-forced.ensures.matrix, c.in_ok-forced.ensures.forced)

pub loop-round-preserved : goal.loop-round-preserved
loop-round-preserved c = (c.add_more.ensures.matrix ∙ c.loop-round.invariant.0, (rw c.loop-round.invariant.0 at c.add_more.ensures.more) c.args.i c.loop-round.invariant.1)

pub returns-then-not-add_more-clause-size : goal.returns-then-not-add_more-clause-size
returns-then-not-add_more-clause-size c = c.add_more.new.self.columns_fit ∙ ap (λ (m : Matrix). m.width) (c.add_more.ensures.matrix ∙ c.loop-round.invariant.0)

pub returns-then-not-add_more-clause-forced : goal.returns-then-not-add_more-clause-forced
returns-then-not-add_more-clause-forced c = (rw c.loop-round.invariant.0 at c.add_more.ensures.more) c.args.i c.loop-round.invariant.1

pub returns-clause-size : goal.returns-clause-size
returns-clause-size c = c.loop-round.forced.columns_fit ∙ ap (λ (m : Matrix). m.width) c.loop-round.invariant.0

pub returns-clause-forced : goal.returns-clause-forced
returns-clause-forced c = c.loop-round.invariant.1
