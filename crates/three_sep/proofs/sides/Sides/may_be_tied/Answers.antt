use Rattle.std.proofs.Common.{◌∷◌, [], subst}
use Rattle.cmr_base.proofs.Booleans.{not_false}
use Rattle.line_growth.specs.declared.rule.GrowthRule.{GrowthRule}
use Rattle.line_growth.specs.Rules.{exchanged}
use Rattle.three_sep.specs.FirstCuts.{first_corner}
use Rattle.three_sep.specs.TiedLines.{ForcesTied}
use Rattle.three_sep.proofs.TiedLemmas.{refused_through}
use Rattle.three_sep.proofs.sides.Sides.may_be_tied.Goals as goal

pub returns-clause-refused : goal.returns-clause-refused
returns-clause-refused c = λ refused.
    let matrix = c.args.self.now.matrix.now in
    let corners = c.args.corners.now in
    let line = c.in-Some.line in
    let far = c.in_ok-forces_tied.ensures.forced c.if-not-branch.false (line ∷ first_corner corners) (c.in_ok-start.ensures.growing _ _ _) in
    let forced = rw c.exchanged.ensures at (rw c.in_ok-forces_tied.ensures.kept.matrix at c.in_ok-forced.ensures.forced) in
    let near = forced (not_false c.in_ok-forced.forced refused) (line ∷ []) (c.in_ok-start-2.ensures.growing _ _ _) in
    refused_through matrix corners line (subst (λ (r : GrowthRule). ForcesTied matrix r (line ∷ first_corner corners) corners.two corners.one) c.rule_at-rule.ensures far)
    (subst (λ (r : GrowthRule). ForcesTied matrix (exchanged r) (line ∷ []) corners.one corners.two) c.rule_at-rule.ensures near)
