use Rattle.std.proofs.Common.{◌≤◌, ◌+◌, ◌-◌, length}
use Rattle.split_search.specs.RowForests.{AreClosedBelow, Walks, KeepsReached, unreached}
use Rattle.split_search.proofs.forest.walk.Given as goal

abbrev pub invariant-rows : goal.invariant-rows
invariant-rows l = Walks l.columns l.nodes.items l.root l.queue.items × (l.head ≤ length l.queue.items) × KeepsReached l.fn.nodes.items l.nodes.items × AreClosedBelow l.columns l.nodes.items l.queue.items l.head

abbrev pub decreases-rows : goal.decreases-rows
decreases-rows l = (unreached l.nodes.items + length l.queue.items) - l.head
