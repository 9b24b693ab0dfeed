use Rattle.std.proofs.lemmas.Option.{MatchOption-at_some}
use Rattle.std.proofs.lemmas.Result.{IfOk-weaker}
use Rattle.cmr_base.specs.Matrix.{Matrix}
use Rattle.chains.specs.Chains.{IsFirstBrokenPart, IsSoundChain}
use Rattle.cmr_evidence.specs.Check.{refused}
use Rattle.cmr_evidence.proofs.tools.check.check_steps.Goals as goal

pub returns-in-Some : goal.returns-in-Some
returns-in-Some c =
    let m = c.args.matrix.now in
    let chain = c.args.chain.now in
    let broken = MatchOption-at_some ((signs : Matrix) × IsSoundChain m chain signs) (IsFirstBrokenPart m chain) c.in-Some.step c.in-Some.is c.in_ok-found.ensures in
    IfOk-weaker c.refused_step.result _ _ (λ outcome e. refused c.in-Some.step broken e) c.refused_step.ensures
