use Rattle.std.proofs.Common.{◌≡◌, ◌+◌, length, take}
use Rattle.std.specs.List.{AllByRecursion}
use Rattle.split_search.specs.RowForests.{Walks, IsColumnClosed, HasAppended, KeepsReached, unreached}
use Rattle.split_search.proofs.forest.reach_all.Given as goal

abbrev pub invariant-loop-nonzero : goal.invariant-loop-nonzero
invariant-loop-nonzero l = Walks l.columns l.nodes.items l.root l.queue.items × (unreached l.nodes.items + length l.queue.items ≡ unreached l.fn.nodes.items + length l.fn.queue.items)
    × KeepsReached l.fn.nodes.items l.nodes.items × HasAppended l.fn.queue.items l.queue.items × AllByRecursion (λ x. IsColumnClosed l.columns l.nodes.items l._row x.line) (take l.nonzero-index l.run)
