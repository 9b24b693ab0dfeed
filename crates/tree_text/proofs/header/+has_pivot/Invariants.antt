use Rattle.std.proofs.Common.{◌≡◌, drop}
use Rattle.tree_type.specs.DecompositionTrees.{children_of, tree_of, trees_from}
use Rattle.tree_type.specs.NodeCounts.{node_count}
use Rattle.tree_text.specs.CanonicalTrees.{has_pivot, have_pivot}
use Rattle.tree_text.proofs.header.+has_pivot.Given as goal

abbrev pub decreases-has_pivot : goal.decreases-has_pivot
decreases-has_pivot l = node_count (tree_of l.node.now)

-- the node has a pivot if and only if one of the remaining children has
abbrev pub invariant-loop-index : goal.invariant-loop-index
invariant-loop-index l = have_pivot (trees_from (drop l.index (children_of (tree_of l.node)))) ≡ has_pivot (tree_of l.node)
