use Rattle.std.proofs.Common.{rules}
use Rattle.std.proofs.lemmas.Result.{IfOk-weaker}
use Rattle.cmr_base.specs.CyclePlaces.{IsCycleFault}
use Rattle.cmr_reach.specs.Camion.{no}
use Rattle.cmr_reach.proofs.tools.camion.test.Goals as goal

pub returns-in-Some : goal.returns-in-Some
returns-in-Some c =
    let is : IsCycleFault c.args.matrix.now c.in-Some.fault.rows c.in-Some.fault.columns = search rules in
    IfOk-weaker c.fault_outcome.result _ _ (λ outcome report. no c.in-Some.fault is report) c.fault_outcome.ensures
