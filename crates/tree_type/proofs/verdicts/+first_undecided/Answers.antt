use Rattle.tree_type.specs.DecompositionTrees.{lines_at_root, tree_of}
use Rattle.tree_type.specs.Verdicts.{open_at}
use Rattle.tree_type.proofs.NodeChildren.{first_of_children}
use Rattle.tree_type.proofs.OtherKinds.{leaves_none_open}
use Rattle.tree_type.proofs.verdicts.+first_undecided.Goals as goal

pub loop-index-init : goal.loop-index-init
loop-index-init t c =
    let node = c.args.node.now in
    first_of_children open_at (tree_of node) (leaves_none_open node (lines_at_root (tree_of node)) c.in_default.not-Undecided)
