use Rattle.std.proofs.Common.{subst}
use Rattle.std.proofs.lemmas.Result.{IfOk-weaker}
use Rattle.cert_check.specs.Answers.{Answers}
use Rattle.cmr_reach.specs.Parts.{refused}
use Rattle.cmr_reach.proofs.tools.parts.check_and_part.Goals as goal

pub returns-in-Some : goal.returns-in-Some
returns-in-Some c =
    let broken = subst (Answers c.args.matrix.now c.args.tree.now) c.in-Some.is c.in_ok-found.ensures in
    IfOk-weaker c.broken.result _ _ (λ outcome e. refused c.in-Some.refusal.path c.in-Some.refusal.rule broken e) c.broken.ensures
