use Rattle.std.proofs.Common.{◌≡◌, ◌++◌, ◌+◌, drop}
use Rattle.tree_type.specs.DecompositionTrees.{children_of, tree_of, trees_from}
use Rattle.tree_type.specs.NodeCounts.{node_count}
use Rattle.cmr_unimodular.specs.Outline.{AreAtDepth, outline_from, outline_below}
use Rattle.cmr_unimodular.proofs.outline.+push_node.Given as goal

abbrev pub decreases-push_node : goal.decreases-push_node
decreases-push_node l = node_count (tree_of l.node.now)

-- the written children and the remaining ones are all children
abbrev pub invariant-loop-index : goal.invariant-loop-index
invariant-loop-index l = record {
  whole : l.text.items ++ outline_below (l.depth + 1) (trees_from (drop l.index (children_of (tree_of l.node)))) ≡ l.fn.text.items ++ outline_from l.depth (tree_of l.node);
  left : AreAtDepth (l.depth + 1) (trees_from (drop l.index (children_of (tree_of l.node))));
}
