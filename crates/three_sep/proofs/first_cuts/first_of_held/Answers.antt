use Rattle.std.proofs.Common.{[], ◌∷◌, ◌++◌, ◌∙◌, sym, arith, subst}
use Rattle.line_growth.specs.declared.rule.GrowthRule.{GrowthRule}
use Rattle.line_growth.specs.GrowingSets.{set_of}
use Rattle.line_growth.specs.Rules.{IsRuleOf}
use Rattle.line_growth.proofs.SetSteps.{decided_no, decided_yes}
use Rattle.three_sep.specs.declared.search.Search.{Search}
use Rattle.three_sep.specs.Connectors.{rule_of}
use Rattle.three_sep.specs.CutSeeds.{HoldsThird, cut_prefix}
use Rattle.three_sep.specs.FirstCuts.{first_corner, second_corner}
use Rattle.three_sep.proofs.CutSeedLemmas.{cut_level_ends, cut_level_found, decided_with, found_cut_here, fourth_below, no_cut_below_more, no_fourth, no_seed_with_both}
use Rattle.three_sep.proofs.SideLemmas.{rule_inside}
use Rattle.three_sep.proofs.first_cuts.first_of_held.Goals as goal
use Rattle.three_sep.proofs.first_cuts.first_of_held.Goals.{else-is_fourth-via-then-is_fourth+in_ok-leaves_beside+else-branch, else-is_fourth-via-else-is_fourth}

pub leaves_beside-requires-clause-rule : goal.leaves_beside-requires-clause-rule
leaves_beside-requires-clause-rule c =
    rw (c.loop-fourth.search.sides_fit ∙ c.loop-fourth.invariant.0.matrix)
    (subst (λ (r : GrowthRule). IsRuleOf c.args.search.now.matrix.now r) (sym c.rule_at-rule.ensures) (rule_inside c.args.search.now.matrix.now c.args.corners.now c.requires.corners.inside))

pub leaves_beside-requires-clause-second : goal.leaves_beside-requires-clause-second
leaves_beside-requires-clause-second c =
    let inside = c.requires.corners.inside in
    rw (c.loop-fourth.search.sides_fit ∙ c.loop-fourth.invariant.0.matrix) (inside.row_two, (inside.column_two, tt))

pub leaves_beside-requires-clause-line : goal.leaves_beside-requires-clause-line
leaves_beside-requires-clause-line c = rw (c.loop-fourth.search.sides_fit ∙ c.loop-fourth.invariant.0.matrix) c.line_at-line.ensures.line

pub returns-then-branch-clause-found : goal.returns-then-branch-clause-found
returns-then-branch-clause-found c =
    let m = c.args.search.now.matrix.now in
    let d = c.args.corners.now in
    let held = c.loop-fourth.invariant.0 in
    let fit = c.loop-fourth.search.sides_fit ∙ held.matrix in
    let x = held.line in
    let y = c.line_at-line.result in
    let S = set_of c.leaves_beside.new.self.grown in
    let decided = decided_with m d x y c.rule_at-rule.result c.rule_at-rule.ensures c.loop-fourth.search.sides.side c.in_ok-leaves_beside.field-0 S held.growing (rw fit at c.in_ok-leaves_beside.ensures.decided) in
    let leaving = decided_yes m (rule_of d) (y ∷ x ∷ first_corner d) (second_corner d) 4 c.in_ok-leaves_beside.field-0 S decided c.if-branch.true in
    cut_level_found m (cut_prefix d ++ c.args.third ∷ []) c.loop-fourth.fourth c.in_ok-lines.field-0 (omega arith) c.loop-fourth.invariant.1
    (found_cut_here m d c.args.third c.loop-fourth.fourth x y held.inside c.line_at-line.ensures.line held.number c.line_at-line.ensures.number
    c.requires.corners c.requires.third (c.is_fourth.ensures.other c.if-is_fourth.true) (c.is_fourth.ensures.different c.if-is_fourth.true) S leaving c.in_ok-lines.field-0 (rw (c.in_ok-leaves_beside.ensures.kept.matrix ∙ fit) at c.in_ok-lines.ensures))

pub loop-fourth-preserved : goal.loop-fourth-preserved
loop-fourth-preserved c =
    let m = c.args.search.now.matrix.now in
    let d = c.args.corners.now in
    let prefix = cut_prefix d ++ c.args.third ∷ [] in
    let held = c.loop-fourth.invariant.0 in
    let fit = c.loop-fourth.search.sides_fit ∙ held.matrix in
    let x = held.line in
    let y = c.line_at-line.result in
    elim c.else-is_fourth.branch [
      | else-is_fourth-via-then-is_fourth+in_ok-leaves_beside+else-branch w ↦ (
        subst (λ (s : Search). HoldsThird m d c.args.third s) (sym w.search-is) (record {
          matrix = held.matrix;
          line = x;
          inside = held.inside;
          number = held.number;
          growing = rw w.in_ok-leaves_beside.ensures.kept.side held.growing;
        }),
        no_cut_below_more m prefix c.loop-fourth.fourth c.loop-fourth.invariant.1
            (no_seed_with_both m d c.args.third c.loop-fourth.fourth x y held.inside c.line_at-line.ensures.line held.number c.line_at-line.ensures.number
            (decided_no m (rule_of d) (y ∷ x ∷ first_corner d) (second_corner d) 4 w.in_ok-leaves_beside.field-0 (set_of w.leaves_beside.new.self.grown)
            (decided_with m d x y c.rule_at-rule.result c.rule_at-rule.ensures c.loop-fourth.search.sides.side w.in_ok-leaves_beside.field-0 (set_of w.leaves_beside.new.self.grown) held.growing (rw fit at w.in_ok-leaves_beside.ensures.decided)) w.if-branch.false)),
      )
      | else-is_fourth-via-else-is_fourth w ↦ (
        subst (λ (s : Search). HoldsThird m d c.args.third s) (sym w.search-is) held,
        no_cut_below_more m prefix c.loop-fourth.fourth c.loop-fourth.invariant.1
            (no_fourth m d c.args.third c.loop-fourth.fourth x y held.inside c.line_at-line.ensures.line held.number c.line_at-line.ensures.number (c.is_fourth.ensures.no w.if-is_fourth.false)),
      )
    ]

pub returns-clause-found : goal.returns-clause-found
returns-clause-found c =
    let m = c.args.search.now.matrix.now in
    cut_level_ends m (cut_prefix c.args.corners.now ++ c.args.third ∷ []) c.loop-fourth.fourth (omega arith) c.loop-fourth.invariant.1
    (λ s S b g h. let k = fourth_below m c.args.corners.now c.args.third c.rows.result c.columns.result c.rows.ensures.rows c.columns.ensures.columns s S b g h in let l = c.loop-fourth-test.false in omega arith)
