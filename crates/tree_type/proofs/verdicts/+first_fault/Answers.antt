use Rattle.tree_type.specs.DecompositionTrees.{lines_at_root, tree_of}
use Rattle.tree_type.specs.Verdicts.{fault_at}
use Rattle.tree_type.proofs.NodeChildren.{first_of_children}
use Rattle.tree_type.proofs.OtherKinds.{names_no_fault}
use Rattle.tree_type.proofs.verdicts.+first_fault.Goals as goal

pub loop-index-init : goal.loop-index-init
loop-index-init t c =
    let node = c.args.node.now in
    first_of_children fault_at (tree_of node) (names_no_fault node (lines_at_root (tree_of node)) c.in_default.not-Cycle c.in_default.not-Violator)
