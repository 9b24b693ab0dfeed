use Rattle.std.proofs.Common.{subst}
use Rattle.std.proofs.lemmas.Result.{IfOk-weaker}
use Rattle.cmr_reach.specs.Compose.{IsComposition, refused}
use Rattle.cmr_reach.proofs.tools.compose_tool.compose_matrices.Goals as goal

pub returns-in-Without : goal.returns-in-Without
returns-in-Without c =
    let is = subst (IsComposition c.args.options.now.sum c.args.first.now c.args.second.now) c.in-Without.is c.in_ok-sum.ensures in
    IfOk-weaker c.refused.result _ _ (λ outcome e. refused c.in-Without.obstacle is e) c.refused.ensures
