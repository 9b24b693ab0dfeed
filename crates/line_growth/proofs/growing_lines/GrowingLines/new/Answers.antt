use Rattle.std.proofs.Common.{sym}
use Rattle.line_growth.proofs.LineSteps.{empty}
use Rattle.line_growth.proofs.growing_lines.GrowingLines.new.Goals as goal

pub invariant_of-result : goal.invariant_of-result
invariant_of-result c = empty _ c.args.size c.in_ok-new.ensures.none (sym c.in_ok-new.ensures.size) c.in_ok-new-2.ensures
