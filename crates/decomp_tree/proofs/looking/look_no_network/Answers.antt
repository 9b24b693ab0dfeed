use Rattle.std.proofs.Common.{◌∙◌, sym, subst}
use Rattle.std.proofs.lemmas.Bool.{true≢false}
use Rattle.cmr_base.specs.R10.{IsR10}
use Rattle.decomp_tree.specs.Shapes.{IsR10Matrix}
use Rattle.decomp_tree.proofs.Said.{none_next}
use Rattle.decomp_tree.specs.Nodes.{submatrix_of}
use Rattle.decomp_tree.proofs.looking.look_no_network.Goals as goal

pub look_r10-requires-clause-r10 : goal.look_r10-requires-clause-r10
look_r10-requires-clause-r10 g c = subst IsR10 (c.by_rows.ensures.matrix ∙ c.args.node.now.submatrix_is) (c.is_r10.ensures.0 c.if-is_r10.true)

pub look_separated-requires-clause-none : goal.look_separated-requires-clause-none
look_separated-requires-clause-none g c =
    let n = submatrix_of c.args.node.now in
    let no_r10 : ¬ (IsR10 n) = (λ (is : IsR10 n). true≢false (sym (c.is_r10.ensures.1 (subst IsR10 (sym (c.by_rows.ensures.matrix ∙ c.args.node.now.submatrix_is)) is)) ∙ c.if-is_r10.false)) in
    λ κs lives. none_next c.args.node.now.limits.lines n IsR10Matrix c.requires.none no_r10
