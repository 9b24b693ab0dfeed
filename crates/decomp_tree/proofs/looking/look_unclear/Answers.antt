use Rattle.std.proofs.Common.{◌∙◌, false, ap, sym, arith}
use Rattle.cmr_base.specs.Matrix.{Matrix}
use Rattle.cmr_base.specs.Reductions.{removal}
use Rattle.tree_type.specs.Soundness.{part}
use Rattle.decomp_tree.specs.Shapes.{IsReducible}
use Rattle.decomp_tree.proofs.Said.{none_next, not_reducible, empty_from_length}
use Rattle.decomp_tree.proofs.looking.look_unclear.Goals as goal

pub look_irreducible-requires-clause-none : goal.look_irreducible-requires-clause-none
look_irreducible-requires-clause-none g c =
    let m = c.args.node.now.matrix.now in
    let lines = c.args.node.now.lines.now in
    let empty = empty_from_length c.in_ok-reduction.reduction.steps (let l = c.if-len-gt0.false in let e = c.len.ensures in omega (arith, l, e)) in
    let removed = ap (λ (n : Matrix). (removal false n).steps) (sym (c.by_rows.ensures.matrix ∙ c.args.node.now.submatrix_is)) ∙ sym c.in_ok-reduction.ensures.steps ∙ empty in
    λ κs lives. none_next c.args.node.now.limits.lines (part m lines) IsReducible c.requires.none
    (not_reducible c.args.node.now.limits.lines m c.args.node.now.shape lines c.args.node.now.are_lines removed)
