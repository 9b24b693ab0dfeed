use Rattle.std.proofs.Common.{false, subst}
use Rattle.cmr_base.specs.Matrix.{Matrix}
use Rattle.sp_reduce.specs.RowDigests.{HasNoReducibleLine}
use Rattle.decomp_tree.specs.Shapes.{IsReducible}
use Rattle.decomp_tree.proofs.Said.{none_next, none_reducible}
use Rattle.decomp_tree.specs.Nodes.{submatrix_of}
use Rattle.decomp_tree.proofs.looking.look_filled.Goals as goal

pub look_irreducible-requires-clause-none : goal.look_irreducible-requires-clause-none
look_irreducible-requires-clause-none g c =
    let n = submatrix_of c.args.node.now in
    let none = subst (λ (k : Matrix). HasNoReducibleLine false k) c.args.node.now.submatrix_is (c.in_ok-first_look.ensures c.in-Irreducible.is false) in
    λ κs lives. none_next c.args.node.now.limits.lines n IsReducible c.requires.none (none_reducible c.args.node.now.limits.lines n none)
