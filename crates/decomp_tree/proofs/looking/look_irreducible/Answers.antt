use Rattle.std.proofs.Common.{◌∙◌, List, map, ap, sym, subst, arith}
use Rattle.std.specs.List.{AllByRecursion}
use Rattle.cmr_base.specs.declared.line_set.LineSet.{LineSet}
use Rattle.cmr_base.specs.Matrix.{Matrix}
use Rattle.cmr_base.specs.Components.{AreComponents}
use Rattle.tree_type.specs.declared.finding.Finding.TheVariants as held
use Rattle.decomp_tree.specs.Shapes.{IsApart, set_in}
use Rattle.decomp_tree.specs.Seen.{IsPlacedSet, IsSeen}
use Rattle.decomp_tree.proofs.Said.{none_next, not_apart, parts_placed, seen_parts}
use Rattle.decomp_tree.specs.Nodes.{submatrix_of}
use Rattle.decomp_tree.proofs.looking.look_irreducible.Goals as goal

pub named_parts-requires : goal.named_parts-requires
named_parts-requires g c =
    let apart = subst (λ (n : Matrix). AreComponents n c.in_ok-parts.parts) c.args.node.now.submatrix_is c.in_ok-parts.ensures in
    subst (AllByRecursion (IsPlacedSet c.args.node.now.lines.now)) (sym c.as_slice.ensures)
    (parts_placed c.args.node.now.limits.lines c.args.node.now.matrix.now c.args.node.now.shape c.args.node.now.lines.now c.args.node.now.are_lines c.in_ok-parts.parts apart)

pub returns-then-len-ge2 : goal.returns-then-len-ge2
returns-then-len-ge2 g c =
    let m = c.args.node.now.matrix.now in
    let lines = c.args.node.now.lines.now in
    let apart = subst (λ (n : Matrix). AreComponents n c.in_ok-parts.parts) c.args.node.now.submatrix_is c.in_ok-parts.ensures in
    subst (λ (children : List LineSet). IsSeen c.args.node.now.limits.lines m lines (record { finding = held.OneSum; children = children })) (sym (c.in_ok-named_parts.ensures ∙ ap (map (set_in lines)) c.as_slice.ensures))
    (seen_parts c.args.node.now.limits.lines m c.args.node.now.shape lines c.args.node.now.are_lines c.in_ok-parts.parts c.requires.none apart
    (let l = c.if-len-ge2.true in let e = c.len.ensures in omega (arith, l, e)))

pub look_connected-requires-clause-none : goal.look_connected-requires-clause-none
look_connected-requires-clause-none g c =
    let submatrix = submatrix_of c.args.node.now in
    let apart = subst (λ (n : Matrix). AreComponents n c.in_ok-parts.parts) c.args.node.now.submatrix_is c.in_ok-parts.ensures in
    λ κs lives. none_next c.args.node.now.limits.lines submatrix IsApart c.requires.none
    (not_apart submatrix c.args.node.now.limits.lines c.in_ok-parts.parts apart (let l = c.if-len-ge2.false in let e = c.len.ensures in omega (arith, l, e)))
