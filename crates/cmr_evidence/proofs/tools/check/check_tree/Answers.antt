use Rattle.std.proofs.Common.{subst}
use Rattle.std.proofs.lemmas.Result.{IfOk-weaker}
use Rattle.cert_check.specs.Answers.{Answers}
use Rattle.cmr_evidence.specs.Check.{refused}
use Rattle.cmr_evidence.proofs.tools.check.check_tree.Goals as goal

pub accepted_tree-requires : goal.accepted_tree-requires
accepted_tree-requires c = subst (Answers c.args.matrix.now c.args.tree.now) c.in-None.is c.in_ok-found.ensures

pub returns-in-Some : goal.returns-in-Some
returns-in-Some c =
    let broken = subst (Answers c.args.matrix.now c.args.tree.now) c.in-Some.is c.in_ok-found.ensures in
    IfOk-weaker c.refused.result _ _ (λ outcome e. refused c.in-Some.refusal.path c.in-Some.refusal.rule broken e) c.refused.ensures
