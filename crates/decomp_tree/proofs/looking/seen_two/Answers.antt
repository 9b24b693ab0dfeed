use Rattle.std.proofs.Common.{[], ◌∷◌, sym, subst}
use Rattle.cmr_base.specs.declared.line_set.LineSet.{LineSet}
use Rattle.cmr_base.specs.declared.separation.Two.{Two}
use Rattle.tree_type.specs.Sides.{two_one, two_two}
use Rattle.tree_type.specs.DecompositionTrees.{TwoSum}
use Rattle.tree_type.specs.declared.finding.Finding.TheVariants as held
use Rattle.decomp_tree.specs.Seen.{IsSaid}
use Rattle.decomp_tree.proofs.Said.{seen_as}
use Rattle.decomp_tree.proofs.SaidSums.{two_side_placed, said_two}
use Rattle.decomp_tree.proofs.looking.seen_two.Goals as goal

pub named_two-requires-clause-side : goal.named_two-requires-clause-side
named_two-requires-clause-side c =
    two_side_placed c.args.node.now.limits.lines c.args.node.now.matrix.now c.args.node.now.shape c.args.node.now.lines.now c.args.node.now.are_lines c.args.found.now c.requires.found

pub returns : goal.returns
returns c =
    let lines = c.args.node.now.lines.now in
    seen_as c.args.node.now.limits.lines c.args.node.now.matrix.now lines (record { finding = held.TwoSum c.in_ok-two.two; children = c.in_ok-one.one ∷ c.in_ok-other.other ∷ [] }) c.above_two.result c.above_two.ensures
    (subst (λ (other : LineSet). IsSaid c.args.node.now.limits.lines c.args.node.now.matrix.now lines (TwoSum c.in_ok-two.two) (c.in_ok-one.one ∷ other ∷ [])) (sym c.in_ok-other.ensures)
    (subst (λ (one : LineSet). IsSaid c.args.node.now.limits.lines c.args.node.now.matrix.now lines (TwoSum c.in_ok-two.two) (one ∷ two_two lines c.in_ok-two.two ∷ [])) (sym c.in_ok-one.ensures)
    (subst (λ (two : Two). IsSaid c.args.node.now.limits.lines c.args.node.now.matrix.now lines (TwoSum two) (two_one lines two ∷ two_two lines two ∷ [])) (sym c.in_ok-two.ensures)
    (said_two c.args.node.now.limits.lines c.args.node.now.matrix.now c.args.node.now.shape lines c.args.node.now.are_lines c.args.found.now c.requires.found c.requires.none))))
