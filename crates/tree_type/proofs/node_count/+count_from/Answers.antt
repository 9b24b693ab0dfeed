use Rattle.tree_type.specs.DecompositionTrees.{tree_of}
use Rattle.tree_type.proofs.NodeChildren.{nodes_counted}
use Rattle.tree_type.proofs.node_count.+count_from.Goals as goal

pub loop-index-init : goal.loop-index-init
loop-index-init t c = nodes_counted (tree_of c.args.node.now)
