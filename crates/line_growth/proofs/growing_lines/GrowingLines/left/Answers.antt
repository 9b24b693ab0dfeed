use Rattle.std.proofs.Common.{not, arith}
use Rattle.line_growth.specs.GrowingLines.{Growth, is_inside}
use Rattle.line_growth.proofs.LineSteps.{count_most}
use Rattle.line_growth.proofs.growing_lines.GrowingLines.left.Goals as goal

pub returns-clause-few : goal.returns-clause-few
returns-clause-few c =
    let lines : Growth = record { inside = c.self.inside.inside; fresh = c.self.inside.fresh } in
    let most = count_most (λ line. not (is_inside lines line)) lines.inside.size in
    omega (arith, most, c.self.invariant.left, c.size-size.ensures.whole.few)
