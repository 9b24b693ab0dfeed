use Rattle.std.proofs.Common.{◌∙◌, sym, arith}
use Rattle.cmr_base.proofs.Booleans.{true_is_false}
use Rattle.chains.proofs.ChainChecks.{step_broken, violator_broken}
use Rattle.chains.proofs.check.check_chain.Goals as goal

pub returns-then-followed-steps : goal.returns-then-followed-steps
returns-then-followed-steps c =
    step_broken c.args.matrix.now c.args.chain.now c.as_slice-steps.result.now c.in_ok-followed.followed (c.if-chain-rows.false ∙ c.rows.ensures.rows, c.if-chain-columns.false ∙ c.columns.ensures.columns)
    c.as_slice-steps.ensures c.in_ok-followed.ensures.followed c.if-followed-steps.true

pub returns : goal.returns
returns c =
    violator_broken c.args.matrix.now c.args.chain.now c.as_slice-steps.result.now c.in_ok-followed.followed (c.if-chain-rows.false ∙ c.rows.ensures.rows, c.if-chain-columns.false ∙ c.columns.ensures.columns)
    c.as_slice-steps.ensures c.in_ok-followed.ensures.followed (λ l. let t = c.if-followed-steps.false in omega arith) (λ v. true_is_false (sym (c.is_signed_violator.ensures.1 v) ∙ c.if-is_signed_violator.false))
