use Rattle.std.proofs.Common.{◌≡◌, ◌∙◌, sym, subst}
use Rattle.cmr_base.specs.declared.separation.Form.TheVariants.{Concentrated}
use Rattle.cmr_base.specs.Matrix.{Matrix}
use Rattle.line_growth.specs.declared.rule.GrowthRule.{GrowthRule}
use Rattle.line_growth.specs.GrowingSets.{HasNoLeaving, set_of}
use Rattle.line_growth.specs.Rules.{IsRuleOf, exchanged}
use Rattle.three_sep.specs.Connectors.{firsts, seconds}
use Rattle.three_sep.proofs.ConcentratedLemmas.{spread_connectors}
use Rattle.line_growth.proofs.SetSteps.{decided_no}
use Rattle.three_sep.proofs.SideLemmas.{no_good_parting, none_leaving, none_left}
use Rattle.three_sep.proofs.concentrated.first_of_connectors.Goals as goal

exchanged_rule : (m : Matrix) (rule other : GrowthRule) → other ≡ exchanged rule → IsRuleOf m rule → IsRuleOf m other
exchanged_rule m rule other e is = subst (IsRuleOf m) (sym e) (record { upper = is.lower; lower = is.upper })

pub hold-requires-clause-rule : goal.hold-requires-clause-rule
hold-requires-clause-rule c = rw c.in_ok-sides.ensures c.spread_rule-rule.ensures.rule

pub hold-requires-clause-first : goal.hold-requires-clause-first
hold-requires-clause-first c = rw c.in_ok-sides.ensures c.requires.first_lines

pub hold-requires-clause-second : goal.hold-requires-clause-second
hold-requires-clause-second c = rw c.in_ok-sides.ensures c.requires.second_lines

pub returns-then-not-branch : goal.returns-then-not-branch
returns-then-not-branch c =
    let m = c.args.matrix.now in
    let d = c.args.connectors.now in
    let rule = c.spread_rule-rule in
    no_good_parting m Concentrated rule.result d (spread_connectors m rule.result d c.requires rule.ensures.rule rule.ensures.upper rule.ensures.lower)
    (none_leaving m rule.result (firsts Concentrated d) (seconds Concentrated d) (decided_no m rule.result (firsts Concentrated d) (seconds Concentrated d) 4 c.in_ok-hold.field-0 (set_of c.hold.new.self.side) (rw c.in_ok-sides.ensures at c.in_ok-hold.ensures.decided) c.if-not-branch.true))

pub leaves-requires-clause-rule : goal.leaves-requires-clause-rule
leaves-requires-clause-rule c = rw (c.in_ok-hold.ensures.matrix ∙ c.in_ok-sides.ensures) (exchanged_rule c.args.matrix.now c.spread_rule-rule.result c.exchanged.result c.exchanged.ensures c.spread_rule-rule.ensures.rule)

pub leaves-requires-clause-first : goal.leaves-requires-clause-first
leaves-requires-clause-first c = rw (c.in_ok-hold.ensures.matrix ∙ c.in_ok-sides.ensures) c.requires.second_lines

pub leaves-requires-clause-second : goal.leaves-requires-clause-second
leaves-requires-clause-second c = rw (c.in_ok-hold.ensures.matrix ∙ c.in_ok-sides.ensures) c.requires.first_lines

pub returns-then-not-branch-2 : goal.returns-then-not-branch-2
returns-then-not-branch-2 c =
    let m = c.args.matrix.now in
    let d = c.args.connectors.now in
    let rule = c.spread_rule-rule in
    let decided = rw (c.in_ok-hold.ensures.matrix ∙ c.in_ok-sides.ensures) at c.in_ok-leaves.ensures.decided in
    no_good_parting m Concentrated rule.result d (spread_connectors m rule.result d c.requires rule.ensures.rule rule.ensures.upper rule.ensures.lower)
    (none_left m rule.result (firsts Concentrated d) (seconds Concentrated d) (subst (λ (r : GrowthRule). HasNoLeaving m r (seconds Concentrated d) (firsts Concentrated d) 4) c.exchanged.ensures
    (decided_no m c.exchanged.result (seconds Concentrated d) (firsts Concentrated d) 4 c.in_ok-leaves.field-0 (set_of c.leaves.new.self.grown) decided c.if-not-branch-2.true)))

pub may_part-requires-clause-rule : goal.may_part-requires-clause-rule
may_part-requires-clause-rule c = rw (c.in_ok-leaves.ensures.kept.matrix ∙ c.in_ok-hold.ensures.matrix ∙ c.in_ok-sides.ensures) c.spread_rule-rule.ensures.rule

pub may_part-requires-clause-first : goal.may_part-requires-clause-first
may_part-requires-clause-first c = rw (c.in_ok-leaves.ensures.kept.matrix ∙ c.in_ok-hold.ensures.matrix ∙ c.in_ok-sides.ensures) c.requires.first_lines

pub may_part-requires-clause-second : goal.may_part-requires-clause-second
may_part-requires-clause-second c = rw (c.in_ok-leaves.ensures.kept.matrix ∙ c.in_ok-hold.ensures.matrix ∙ c.in_ok-sides.ensures) c.requires.second_lines

pub returns-then-not-branch-3 : goal.returns-then-not-branch-3
returns-then-not-branch-3 c =
    let m = c.args.matrix.now in
    let d = c.args.connectors.now in
    let rule = c.spread_rule-rule in
    no_good_parting m Concentrated rule.result d (spread_connectors m rule.result d c.requires rule.ensures.rule rule.ensures.upper rule.ensures.lower)
    (rw (c.in_ok-leaves.ensures.kept.matrix ∙ c.in_ok-hold.ensures.matrix ∙ c.in_ok-sides.ensures) at (c.in_ok-may_part.ensures.none c.if-not-branch-3.true))

pub first_of_lines-requires-clause-connectors : goal.first_of_lines-requires-clause-connectors
first_of_lines-requires-clause-connectors c =
    let rule = c.spread_rule-rule in
    rw (c.in_ok-may_part.ensures.kept.matrix ∙ c.in_ok-leaves.ensures.kept.matrix ∙ c.in_ok-hold.ensures.matrix ∙ c.in_ok-sides.ensures)
    (spread_connectors c.args.matrix.now rule.result c.args.connectors.now c.requires rule.ensures.rule rule.ensures.upper rule.ensures.lower)

pub first_of_lines-requires-clause-growing : goal.first_of_lines-requires-clause-growing
first_of_lines-requires-clause-growing c =
    rw (c.in_ok-may_part.ensures.kept.side ∙ c.in_ok-leaves.ensures.kept.side, c.in_ok-may_part.ensures.kept.matrix ∙ c.in_ok-leaves.ensures.kept.matrix ∙ c.in_ok-hold.ensures.matrix) c.in_ok-hold.ensures.growing

pub returns : goal.returns
returns c = rw (c.in_ok-may_part.ensures.kept.matrix ∙ c.in_ok-leaves.ensures.kept.matrix ∙ c.in_ok-hold.ensures.matrix ∙ c.in_ok-sides.ensures) at c.first_of_lines.ensures.found
