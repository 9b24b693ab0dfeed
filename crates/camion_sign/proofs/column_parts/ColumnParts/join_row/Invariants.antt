use Rattle.std.proofs.Common.{◌≤◌, ◌-◌}
use Rattle.camion_sign.proofs.ColumnParts.{AreJoining}
use Rattle.camion_sign.proofs.column_parts.ColumnParts.join_row.Given as goal

abbrev pub invariant-loop-column : goal.invariant-loop-column
invariant-loop-column l = record {
  joining : AreJoining l.matrix l.row l.from l.kept l.self.labels.items;
  inside : l.from ≤ l.matrix.width;
}

abbrev pub decreases-loop-column : goal.decreases-loop-column
decreases-loop-column l = l.matrix.width - l.from
