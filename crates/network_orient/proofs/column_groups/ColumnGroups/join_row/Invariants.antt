use Rattle.std.proofs.Common.{◌≤◌, ◌-◌}
use Rattle.network_orient.proofs.ForcedSigns.{IsRowJoinedTo}
use Rattle.network_orient.proofs.column_groups.ColumnGroups.join_row.Given as goal

abbrev pub invariant-loop-column : goal.invariant-loop-column
invariant-loop-column l = record {
  few : l.place ≤ 1000;
  joined : IsRowJoinedTo l.from l.to l.row l.first l.place l.fn.self.groups.items l.self.groups.items l.fn.self.signs.items l.self.signs.items;
}

abbrev pub decreases-loop-column : goal.decreases-loop-column
decreases-loop-column l = 1001 - l.place
