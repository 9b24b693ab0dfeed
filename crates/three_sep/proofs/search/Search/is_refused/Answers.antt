use Rattle.std.proofs.Common.{subst, sym}
use Rattle.cmr_base.proofs.Booleans.{not_is}
use Rattle.line_growth.specs.declared.rule.GrowthRule.{GrowthRule}
use Rattle.line_growth.specs.Rules.{IsRuleOf}
use Rattle.three_sep.specs.Connectors.{HasNoneParting}
use Rattle.three_sep.specs.FirstCuts.{first_corner, second_corner}
use Rattle.three_sep.proofs.SideLemmas.{rule_inside}
use Rattle.three_sep.proofs.TiedLemmas.{refused_parting}
use Rattle.three_sep.proofs.search.Search.is_refused.Goals as goal

pub may_part-requires-clause-rule : goal.may_part-requires-clause-rule
may_part-requires-clause-rule c =
    rw c.in_ok-may_be_tied.ensures.kept.matrix
    (rw c.args.self.now.sides_fit (subst (λ (r : GrowthRule). IsRuleOf c.args.self.now.matrix.now r) (sym c.rule_at.ensures) (rule_inside c.args.self.now.matrix.now c.args.corners.now c.requires)))

pub returns-then-not-branch-clause-refused : goal.returns-then-not-branch-clause-refused
returns-then-not-branch-clause-refused c = λ e. rw c.args.self.now.sides_fit at (c.in_ok-may_be_tied.ensures.refused c.if-not-branch.true)

pub returns-clause-refused : goal.returns-clause-refused
returns-clause-refused c = λ e.
    let matrix = c.args.self.now.matrix.now in
    let corners = c.args.corners.now in
    let none = rw c.args.self.now.sides_fit at (rw c.in_ok-may_be_tied.ensures.kept.matrix at (c.in_ok-may.ensures.none (not_is c.in_ok-may.may e))) in
    refused_parting matrix corners (subst (λ (r : GrowthRule). HasNoneParting matrix r (first_corner corners) (second_corner corners)) c.rule_at.ensures none)
