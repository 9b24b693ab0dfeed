use Rattle.camion_sign.proofs.FaultViolator.{cycle_fault_violator}
use Rattle.camion_sign.proofs.LineLists.{fault_lines}
use Rattle.camion_sign.proofs.cycle_lines.cycle_fault_from.Goals as goal

pub returns-in_ok-columns-in-Some : goal.returns-in_ok-columns-in-Some
returns-in_ok-columns-in-Some c =
    let m = c.args.matrix.now in
    let rows = c.in_ok-rows-in-Some.rows in
    let columns = c.in_ok-columns-in-Some.columns in
    let is = fault_lines m c.in_ok-fault.field-0 c.in-Some.fault c.deref.result.now c.deref-in-Some.result.now rows columns
    c.rows.ensures.shape c.in-Some.is c.in_ok-fault.ensures c.deref.ensures.value c.deref-in-Some.ensures.value c.rows.ensures.rows c.columns.ensures.columns
    c.in_ok-rows-in-Some.ensures c.in_ok-columns-in-Some.ensures in
    record { fault = is; violator = cycle_fault_violator m c.rows.ensures.shape rows columns is }
