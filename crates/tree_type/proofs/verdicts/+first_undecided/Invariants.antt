use Rattle.std.proofs.Common.{◌≡◌, drop}
use Rattle.tree_type.specs.DecompositionTrees.{children_of, tree_of, trees_from}
use Rattle.tree_type.specs.NodeCounts.{node_count}
use Rattle.tree_type.specs.Verdicts.{first_in, first_among, open_at}
use Rattle.tree_type.proofs.verdicts.+first_undecided.Given as goal

abbrev pub decreases-first_undecided : goal.decreases-first_undecided
decreases-first_undecided l = node_count (tree_of l.node.now)

-- the first undecided node among the remaining children is the first undecided node of the node
abbrev pub invariant-loop-index : goal.invariant-loop-index
invariant-loop-index l = first_among open_at (trees_from (drop l.index (children_of (tree_of l.node)))) ≡ first_in open_at (tree_of l.node)
