use Rattle.std.proofs.Common.{◌≢◌, ◌<◌, ℕ, None}
use Rattle.split_search.specs.RowForests.{IsBetweenTrees, row_node}
use Rattle.split_search.proofs.forest.span.Given as goal

abbrev pub invariant-loop-root : goal.invariant-loop-root
invariant-loop-root l = IsBetweenTrees l.columns l.nodes.items l.queue.items × ((row : ℕ) → row < l.root → row_node l.nodes.items row ≢ None)
