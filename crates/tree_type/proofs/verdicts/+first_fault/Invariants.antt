use Rattle.std.proofs.Common.{◌≡◌, drop}
use Rattle.tree_type.specs.DecompositionTrees.{children_of, tree_of, trees_from}
use Rattle.tree_type.specs.NodeCounts.{node_count}
use Rattle.tree_type.specs.Verdicts.{first_in, first_among, fault_at}
use Rattle.tree_type.proofs.verdicts.+first_fault.Given as goal

abbrev pub decreases-first_fault : goal.decreases-first_fault
decreases-first_fault l = node_count (tree_of l.node.now)

-- the first fault among the remaining children is the first fault of the node
abbrev pub invariant-loop-index : goal.invariant-loop-index
invariant-loop-index l = first_among fault_at (trees_from (drop l.index (children_of (tree_of l.node)))) ≡ first_in fault_at (tree_of l.node)
