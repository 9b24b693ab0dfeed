use Rattle.line_growth.proofs.LineSteps.{empty}
use Rattle.line_growth.proofs.growing_lines.GrowingLines.clear.Goals as goal

pub invariant_of-self : goal.invariant_of-self
invariant_of-self c = empty _ c.size-self-inside.result c.clear.ensures.none c.size-self-inside.ensures.size c.clear-2.ensures
