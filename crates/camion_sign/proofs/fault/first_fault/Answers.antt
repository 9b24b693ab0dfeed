use Rattle.std.proofs.Common.{arith}
use Rattle.ghouila.proofs.SignsUnique.{row_in}
use Rattle.camion_sign.proofs.PrefixFaults.{first_of_all}
use Rattle.camion_sign.proofs.fault.first_fault.Goals as goal

pub returns-then-first-rows : goal.returns-then-first-rows
returns-then-first-rows c = λ t x y path fault.
    let low = row_in c.args.matrix.now t x fault.place.first in
    c.requires.passed t x y path (omega (arith, low, c.if-first-rows.true, c.rows.ensures.rows)) fault

pub passed_prefix-requires : goal.passed_prefix-requires
passed_prefix-requires c = rw c.in_default.is at c.in_ok-fault.ensures.found

pub returns : goal.returns
returns c = first_of_all c.args.matrix.now c.rows-4.result c.fault_in_rows-2.result c.rows-4.ensures.rows c.fault_in_rows-2.ensures.found
