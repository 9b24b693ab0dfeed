use Rattle.camion_sign.proofs.FirstFaults.{first_of_rows}
use Rattle.camion_sign.proofs.fault.fault_in_rows.Goals as goal

pub returns-in-Some-clause-found : goal.returns-in-Some-clause-found
returns-in-Some-clause-found c = first_of_rows c.args.matrix.now c.loop-row.row c.in_ok-fault.field-0 c.in-Some.fault c.in-Some.is c.loop-row.invariant.passed c.in_ok-fault.ensures.found
