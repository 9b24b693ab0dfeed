use Rattle.std.proofs.Common.{◌+◌, ◌*◌, map, take}
use Rattle.tree_type.specs.DecompositionTrees.{children_of, tree_of, trees_from}
use Rattle.tree_type.specs.NodeCounts.{node_count}
use Rattle.decomp_tree.specs.Refined.{AllRefine}
use Rattle.open_parts.specs.TriedShapes.{IsTriedLeaf}
use Rattle.open_parts.proofs.tried_nodes.+trying.Given as goal

abbrev pub decreases-tried_node : goal.decreases-tried_node
decreases-tried_node g l = 2 * node_count (tree_of l.node.now) + 1

abbrev pub decreases-tried_children : goal.decreases-tried_children
decreases-tried_children g l = 2 * node_count (tree_of l.node.now)

-- the children so far are tried
abbrev pub invariant-tried_children-loop-index : goal.invariant-tried_children-loop-index
invariant-tried_children-loop-index g l = AllRefine (IsTriedLeaf l.search.limit l.search.matrix.now) (trees_from (take l.index (children_of (tree_of l.node)))) (trees_from (map tree_of l.tried.items))
