use Rattle.std.proofs.Common.{◌≡◌, ◌-◌, drop}
use Rattle.tree_type.specs.DecompositionTrees.{children_of, tree_of, trees_from}
use Rattle.tree_type.specs.NodeCounts.{node_count}
use Rattle.decomp_tree.specs.Levels.{is_on_levels, are_on_levels}
use Rattle.decomp_tree.proofs.levels.+is_on_levels.Given as goal

abbrev pub decreases-is_on_levels : goal.decreases-is_on_levels
decreases-is_on_levels l = node_count (tree_of l.node.now)

-- the remaining children decide
abbrev pub invariant-loop-index : goal.invariant-loop-index
invariant-loop-index l = are_on_levels (l.levels - 1) (trees_from (drop l.index (children_of (tree_of l.node)))) ≡ is_on_levels l.levels (tree_of l.node)
