use Rattle.std.proofs.Common.{◌≤◌, ◌-◌}
use Rattle.cmr_base.proofs.CopiedRows.{IsCopiedBefore}
use Rattle.cmr_base.proofs.matrix.Matrix.copy_row.Given as goal

-- the entries before a column are copied
abbrev pub invariant-loop-column : goal.invariant-loop-column
invariant-loop-column l = record {
  inside : l.from ≤ 1000;
  copied : IsCopiedBefore l.self l.row l._columns l.to l.fn.part l.from l.part;
}

abbrev pub decreases-loop-column : goal.decreases-loop-column
decreases-loop-column l = 1001 - l.from
