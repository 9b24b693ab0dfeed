use Rattle.std.proofs.Common.{subst, arith}
use Rattle.compose.specs.SumKinds.{IsCauseOf}
use Rattle.cmr_reach.proofs.ComposeAnswers.{not_ternary}
use Rattle.cmr_reach.proofs.tools.compose_tool.sum_or_obstacle.Goals as goal

pub returns-in-Err-BadEntry : goal.returns-in-Err-BadEntry
returns-in-Err-BadEntry c =
    let kind = c.args.kind in
    let first = c.args.first.now in
    let second = c.args.second.now in
    let found = not_ternary kind first second (subst (IsCauseOf kind first second) c.in-Err-BadEntry.field-0-is c.in-Err-BadEntry.ensures.cause) in
    (omega arith, omega arith, found.0, found.1)
