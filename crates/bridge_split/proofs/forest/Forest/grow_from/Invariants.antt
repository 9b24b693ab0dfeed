use Rattle.std.proofs.Common.{◌-◌}
use Rattle.bridge_split.specs.Forests.{IsGrowingFrom}
use Rattle.bridge_split.proofs.forest.Forest.grow_from.Given as goal

abbrev pub invariant-loop-head : goal.invariant-loop-head
invariant-loop-head l = IsGrowingFrom l.table l.fn.self.reached.items l.self.depth.items l.self.parent.items l.self.reached.items l.root l.head

abbrev pub decreases-loop-head : goal.decreases-loop-head
decreases-loop-head l = l.table.count - l.head
