use Rattle.line_growth.proofs.SetSteps.{none_growing}
use Rattle.line_growth.proofs.growing_set.GrowingSet.clear.Goals as goal

pub returns-clause-growing : goal.returns-clause-growing
returns-clause-growing c = λ m upper lower. none_growing m upper lower _ c.clear.ensures.none c.clear-2.ensures.none
