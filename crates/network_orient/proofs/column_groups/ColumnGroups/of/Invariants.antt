use Rattle.network_orient.proofs.ForcedSigns.{AreRowsJoined}
use Rattle.network_orient.proofs.column_groups.ColumnGroups.of.Given as goal

abbrev pub invariant-loop-row : goal.invariant-loop-row
invariant-loop-row l = AreRowsJoined l.from l.to l.row l.groups.groups.items l.groups.signs.items
