use Rattle.decomp_tree.specs.Shapes.{IsNetwork, IsConetwork}
use Rattle.decomp_tree.proofs.Said.{none_next}
use Rattle.decomp_tree.specs.Nodes.{submatrix_of}
use Rattle.decomp_tree.proofs.looking.look_connected.Goals as goal

pub look_no_network-requires-clause-none : goal.look_no_network-requires-clause-none
look_no_network-requires-clause-none g c =
    let n = submatrix_of c.args.node.now in
    let none = c.is_within.ensures c.if-is_within.true in
    λ κs lives. none_next c.args.node.now.limits.lines n IsConetwork (none_next c.args.node.now.limits.lines n IsNetwork c.requires.none none.0) none.1
