use Rattle.std.proofs.Common.{rules}
use Rattle.std.proofs.lemmas.Result.{IfOk-weaker}
use Rattle.cmr_base.specs.CyclePlaces.{IsCycleFault}
use Rattle.cmr_reach.specs.Balanced.{cycle}
use Rattle.cmr_reach.proofs.BalancedAnswers.{cycle_is_fault}
use Rattle.cmr_reach.proofs.tools.balanced.test.Goals as goal

pub returns-in-Some : goal.returns-in-Some
returns-in-Some g c =
    let is : IsCycleFault c.args.matrix.now c.in-Some.fault.rows c.in-Some.fault.columns = search rules in
    IfOk-weaker c.fault_outcome.result _ _ (λ outcome report. cycle c.in-Some.fault is (cycle_is_fault c.args.matrix.now c.in-Some.fault c.rows.ensures.shape is) report) c.fault_outcome.ensures
