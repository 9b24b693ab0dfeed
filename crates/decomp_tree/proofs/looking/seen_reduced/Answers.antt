use Rattle.std.proofs.Common.{◌∙◌, ◌<◌, List, [], ◌∷◌, length, sym, subst}
use Rattle.cmr_base.specs.declared.line.Line.{Line}
use Rattle.cmr_base.specs.declared.line.Step.{Step}
use Rattle.cmr_base.specs.declared.line_set.LineSet.{LineSet}
use Rattle.tree_type.specs.DecompositionTrees.{Reduced}
use Rattle.tree_type.specs.declared.finding.Finding.TheVariants as held
use Rattle.decomp_tree.specs.Shapes.{set_in}
use Rattle.decomp_tree.specs.Seen.{IsSaid}
use Rattle.decomp_tree.proofs.Said.{steps_placed, rest_placed, seen_rest, seen_as}
use Rattle.decomp_tree.proofs.looking.seen_reduced.Goals as goal

pub named_steps-requires : goal.named_steps-requires
named_steps-requires c =
    steps_placed c.args.node.now.limits.lines c.args.node.now.matrix.now c.args.node.now.shape c.args.node.now.lines.now c.args.node.now.are_lines c.as_slice.result.now (c.as_slice.ensures ∙ c.requires.steps)

pub named_set-requires : goal.named_set-requires
named_set-requires c =
    rest_placed c.args.node.now.limits.lines c.args.node.now.matrix.now c.args.node.now.shape c.args.node.now.lines.now c.args.node.now.are_lines c.args.reduction.now.rest c.requires.rest_rows c.requires.rest_columns

pub returns : goal.returns
returns c =
    let lines = c.args.node.now.lines.now in
    let rest = c.args.reduction.now.rest in
    seen_as c.args.node.now.limits.lines c.args.node.now.matrix.now lines (record { finding = held.Reduced c.in_ok-steps.steps; children = c.in_ok-rest.rest ∷ [] }) c.above_one.result c.above_one.ensures
    (subst (λ (named : LineSet). IsSaid c.args.node.now.limits.lines c.args.node.now.matrix.now lines (Reduced c.in_ok-steps.steps) (named ∷ [])) (sym c.in_ok-rest.ensures)
    (subst (λ (steps : List Line). IsSaid c.args.node.now.limits.lines c.args.node.now.matrix.now lines (Reduced steps) (set_in lines rest ∷ [])) (sym c.in_ok-steps.ensures)
    (seen_rest c.args.node.now.limits.lines c.args.node.now.matrix.now c.args.node.now.shape lines c.args.node.now.are_lines c.as_slice.result.now rest c.requires.none
    (subst (λ (steps : List Step). 0 < length steps) (sym c.as_slice.ensures) c.requires.some) (c.as_slice.ensures ∙ c.requires.steps) c.requires.rest_rows c.requires.rest_columns)))
