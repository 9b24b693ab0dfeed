use Rattle.std.proofs.Common.{◌≡◌, ◌∙◌, sym, arith, subst}
use Rattle.three_sep.specs.declared.search.Search.{Search}
use Rattle.line_growth.specs.declared.rule.GrowthRule.{GrowthRule}
use Rattle.line_growth.specs.Rules.{IsRuleOf}
use Rattle.three_sep.specs.Connectors.{HasNoneParting}
use Rattle.three_sep.specs.CutSeeds.{cut_prefix}
use Rattle.three_sep.specs.FirstCuts.{first_corner, second_corner}
use Rattle.three_sep.proofs.CutSeedLemmas.{cut_level_ends, cut_none, cut_some, no_cut_below_more, no_seed_parting, no_seed_with_third, third_below}
use Rattle.three_sep.proofs.SideLemmas.{rule_inside}
use Rattle.three_sep.proofs.first_cuts.first_of_corners.Goals as goal
use Rattle.three_sep.proofs.first_cuts.first_of_corners.Goals.{then-may_be_third+in_ok-lines+in_default, else-may_be_third}

pub may_part-requires-clause-rule : goal.may_part-requires-clause-rule
may_part-requires-clause-rule c = rw c.args.search.now.sides_fit (subst (λ (r : GrowthRule). IsRuleOf c.args.search.now.matrix.now r) (sym c.rule_at.ensures) (rule_inside c.args.search.now.matrix.now c.args.corners.now c.requires.inside))

pub returns-then-not-branch-clause-found : goal.returns-then-not-branch-clause-found
returns-then-not-branch-clause-found c = no_seed_parting c.args.search.now.matrix.now c.args.corners.now
    (subst (λ (r : GrowthRule). HasNoneParting c.args.search.now.matrix.now r (first_corner c.args.corners.now) (second_corner c.args.corners.now)) c.rule_at.ensures (rw c.args.search.now.sides_fit at (c.in_ok-may_part.ensures.none c.if-not-branch.true)))

pub returns-in-Some-clause-found : goal.returns-in-Some-clause-found
returns-in-Some-clause-found c = cut_some c.args.search.now.matrix.now (cut_prefix c.args.corners.now) c.loop-third.third c.in_ok-lines.field-0 c.in-Some.lines (omega arith) c.loop-third.invariant.1 c.in-Some.is (rw c.loop-third.invariant.0 at c.in_ok-lines.ensures.found)

pub loop-third-preserved : goal.loop-third-preserved
loop-third-preserved c =
    let m = c.args.search.now.matrix.now in
    elim c.if-may_be_third.branch [
      | then-may_be_third+in_ok-lines+in_default w ↦ (
        subst (λ (s : Search). s.matrix.now ≡ m) (sym w.search-is) (w.in_ok-lines.ensures.matrix ∙ c.loop-third.invariant.0),
        cut_none m (cut_prefix c.args.corners.now) c.loop-third.third w.in_ok-lines.field-0 c.loop-third.invariant.1 w.in_default.is (rw c.loop-third.invariant.0 at w.in_ok-lines.ensures.found),
      )
      | else-may_be_third w ↦ (
        subst (λ (s : Search). s.matrix.now ≡ m) (sym w.search-is) c.loop-third.invariant.0,
        no_cut_below_more m (cut_prefix c.args.corners.now) c.loop-third.third c.loop-third.invariant.1
            (no_seed_with_third m c.loop-third.search.groups (rw c.loop-third.invariant.0 at c.loop-third.search.together) c.args.corners.now c.loop-third.third (c.may_be_third.ensures.no w.if-may_be_third.false)),
      )
    ]

pub returns-clause-found : goal.returns-clause-found
returns-clause-found c = cut_level_ends c.args.search.now.matrix.now (cut_prefix c.args.corners.now) c.loop-third.third (omega arith) c.loop-third.invariant.1
    (λ s S b g h. let k = third_below c.args.search.now.matrix.now c.args.corners.now c.rows.result c.columns.result c.rows.ensures.rows c.columns.ensures.columns s S b g h in let l = c.loop-third-test.false in omega arith)

pub may_be_third-requires-clause-names : goal.may_be_third-requires-clause-names
may_be_third-requires-clause-names c = rw c.loop-third.invariant.0 at c.loop-third.search.names

pub first_of_third-requires-clause-corners : goal.first_of_third-requires-clause-corners
first_of_third-requires-clause-corners c = rw c.loop-third.invariant.0 c.requires

pub first_of_third-requires-clause-line : goal.first_of_third-requires-clause-line
first_of_third-requires-clause-line c = let l = c.loop-third-test.true in let r = c.rows.ensures.rows in let k = c.columns.ensures.columns in rw c.loop-third.invariant.0 (omega arith)

pub first_of_third-requires-clause-third : goal.first_of_third-requires-clause-third
first_of_third-requires-clause-third c = rw c.loop-third.invariant.0 (c.may_be_third.ensures.yes c.if-may_be_third.true)
