use Rattle.std.proofs.Common.{◌+◌, ◌*◌, drop}
use Rattle.tree_type.specs.DecompositionTrees.{children_of, tree_of}
use Rattle.tree_type.specs.NodeCounts.{node_count}
use Rattle.cert_check.proofs.Children.{AreLeft}
use Rattle.cert_check.proofs.check_tree.+check.Given as goal

abbrev pub decreases-check_below : goal.decreases-check_below
decreases-check_below l = 3 * node_count (tree_of l.node.now)

abbrev pub decreases-check_child : goal.decreases-check_child
decreases-check_child l = 3 * node_count (tree_of l.child.now) + 1

abbrev pub decreases-check_pivoted : goal.decreases-check_pivoted
decreases-check_pivoted l = 3 * node_count (tree_of l.child.now) + 2

-- the remaining children decide
abbrev pub invariant-check_below-loop-number : goal.invariant-check_below-loop-number
invariant-check_below-loop-number l = AreLeft l.matrix l.pivoted l.path (tree_of l.node) l.number (drop l.number (children_of (tree_of l.node)))
