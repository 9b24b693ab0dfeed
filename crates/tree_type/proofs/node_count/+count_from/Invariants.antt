use Rattle.std.proofs.Common.{◌≡◌, ◌+◌, drop}
use Rattle.tree_type.specs.DecompositionTrees.{children_of, tree_of, trees_from}
use Rattle.tree_type.specs.NodeCounts.{node_count, nodes_below}
use Rattle.tree_type.proofs.node_count.+count_from.Given as goal

abbrev pub decreases-count_from : goal.decreases-count_from
decreases-count_from l = node_count (tree_of l.node.now)

-- the count so far and the counts of the remaining children make the total
abbrev pub invariant-loop-index : goal.invariant-loop-index
invariant-loop-index l = l.count + nodes_below (trees_from (drop l.index (children_of (tree_of l.node)))) ≡ node_count (tree_of l.node)
