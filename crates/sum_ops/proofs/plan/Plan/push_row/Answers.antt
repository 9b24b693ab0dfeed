use Rattle.std.proofs.Common.{◌∙◌}
use Rattle.sum_ops.specs.Plans.{entries_of}
use Rattle.cmr_base.proofs.FilledCells.{entry_pushed}
use Rattle.cmr_base.proofs.SmallEntries.{entry_as_byte}
use Rattle.sum_ops.proofs.plan.Plan.push_row.Goals as goal

pub loop-column-preserved : goal.loop-column-preserved
loop-column-preserved c =
    c.in_ok-push.ensures.items
    ∙ entry_pushed (entries_of c.args.self c.args.first.now c.args.second.now c.args.row) c.loop-column.column c.args.cells.now.items c.loop-column.cells.items _ (entry_as_byte c.entry.result c.entry.ensures.small ∙ c.entry.ensures.value) c.loop-column.invariant
