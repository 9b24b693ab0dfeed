use Rattle.std.proofs.Common.{◌≡◌, ◌+◌, length}
use Rattle.cmr_base.specs.Matrix.{entry}
use Rattle.sp_reduce.specs.declared.kind.LineKind.TheVariants.{Rows}
use Rattle.sp_reduce.specs.Changes.{ArePaired, removal_from}
use Rattle.sp_reduce.proofs.StatedOrder.{IsOnTheWay}
use Rattle.sp_reduce.proofs.removal.remove_all.Given as goal

-- the steps so far are the first steps of the stated order, which continues from the remaining lines
abbrev pub invariant-steps : goal.invariant-steps
invariant-steps l = record {
  kind : l.rows.kind ≡ Rows;
  paired : ArePaired l.binary l.matrix l.rows l.columns;
  way : IsOnTheWay l.binary (entry l.matrix) (removal_from l.binary l.matrix l.fn.rows l.fn.columns) l.steps l.rows.stays.items l.columns.stays.items;
}

abbrev pub decreases-steps : goal.decreases-steps
decreases-steps l = length l.rows.stays.items + length l.columns.stays.items
