use Rattle.std.proofs.Common.{ap, length, arith}
use Rattle.cmr_base.proofs.Parts.{length-increasing}
use Rattle.cmr_base.proofs.IncreasingLists.{row_set_short}
use Rattle.balance.proofs.set_fault.fault_columns.Goals as goal

pub is_fault-requires-clause-few_rows : goal.is_fault-requires-clause-few_rows
is_fault-requires-clause-few_rows c = omega (arith, row_set_short c.args.matrix.now c.args.rows.now c.requires.increasing c.requires.in_range, c.in_ok-kept.ensures.shape.height_in)

pub is_fault-requires-clause-few_columns : goal.is_fault-requires-clause-few_columns
is_fault-requires-clause-few_columns c =
    let kept = c.in_ok-kept.ensures.kept.column_set in
    omega (arith, length-increasing c.in_ok-kept.kept c.args.matrix.now.width kept.increasing kept.in_range, ap length c.as_slice.ensures.items, c.in_ok-kept.ensures.shape.width_in)
