use Rattle.std.proofs.Common.{[], ◌∷◌, sym, subst}
use Rattle.cmr_base.specs.declared.line_set.LineSet.{LineSet}
use Rattle.cmr_base.specs.declared.separation.Three.{Three}
use Rattle.tree_type.specs.Sides.{three_one, three_two}
use Rattle.tree_type.specs.DecompositionTrees.{ThreeSum}
use Rattle.tree_type.specs.declared.finding.Finding.TheVariants as held
use Rattle.decomp_tree.specs.Seen.{IsSaid}
use Rattle.decomp_tree.proofs.Said.{seen_as}
use Rattle.decomp_tree.proofs.SaidSums.{three_side_placed, said_three}
use Rattle.decomp_tree.proofs.looking.seen_three.Goals as goal

pub named_three-requires-clause-side : goal.named_three-requires-clause-side
named_three-requires-clause-side c =
    three_side_placed c.args.node.now.limits.lines c.args.node.now.matrix.now c.args.node.now.shape c.args.node.now.lines.now c.args.node.now.are_lines c.args.found.now c.requires.found

pub returns : goal.returns
returns c =
    let lines = c.args.node.now.lines.now in
    seen_as c.args.node.now.limits.lines c.args.node.now.matrix.now lines (record { finding = held.ThreeSum c.in_ok-three.three; children = c.in_ok-one.one ∷ c.in_ok-other.other ∷ [] }) c.above_two.result c.above_two.ensures
    (subst (λ (other : LineSet). IsSaid c.args.node.now.limits.lines c.args.node.now.matrix.now lines (ThreeSum c.in_ok-three.three) (c.in_ok-one.one ∷ other ∷ [])) (sym c.in_ok-other.ensures)
    (subst (λ (one : LineSet). IsSaid c.args.node.now.limits.lines c.args.node.now.matrix.now lines (ThreeSum c.in_ok-three.three) (one ∷ three_two lines c.in_ok-three.three ∷ [])) (sym c.in_ok-one.ensures)
    (subst (λ (three : Three). IsSaid c.args.node.now.limits.lines c.args.node.now.matrix.now lines (ThreeSum three) (three_one lines three ∷ three_two lines three ∷ [])) (sym c.in_ok-three.ensures)
    (said_three c.args.node.now.limits.lines c.args.node.now.matrix.now c.args.node.now.shape lines c.args.node.now.are_lines c.args.found.now c.requires.found c.requires.none c.requires.faultless))))
