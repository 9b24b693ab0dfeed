use Rattle.network_orient.proofs.Merging.{IsMergedTo}
use Rattle.network_orient.proofs.column_groups.ColumnGroups.merge.Given as goal

abbrev pub invariant-loop-column : goal.invariant-loop-column
invariant-loop-column l = IsMergedTo l.column l.fn.self.groups.items l.fn.self.signs.items l.self.groups.items l.self.signs.items l.replaced l.stays l.factor
