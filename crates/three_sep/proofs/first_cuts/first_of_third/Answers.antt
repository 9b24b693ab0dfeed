use Rattle.std.proofs.Common.{◌∷◌, refl, sym, subst}
use Rattle.line_growth.specs.declared.rule.GrowthRule.{GrowthRule}
use Rattle.line_growth.specs.GrowingSets.{IsGrowing, DecidesLeaving, set_of}
use Rattle.line_growth.specs.Rules.{IsRuleOf, lower_of, upper_of}
use Rattle.line_growth.proofs.SetSteps.{decided_no}
use Rattle.three_sep.specs.Connectors.{rule_of}
use Rattle.three_sep.specs.FirstCuts.{first_corner, second_corner}
use Rattle.three_sep.proofs.CutSeedLemmas.{no_seed_beside}
use Rattle.three_sep.proofs.SideLemmas.{rule_inside}
use Rattle.three_sep.proofs.first_cuts.first_of_third.Goals as goal

pub hold-requires-clause-rule : goal.hold-requires-clause-rule
hold-requires-clause-rule c = rw c.args.search.now.sides_fit (subst (λ (r : GrowthRule). IsRuleOf c.args.search.now.matrix.now r) (sym c.rule_at.ensures) (rule_inside c.args.search.now.matrix.now c.args.corners.now c.requires.corners.inside))

pub returns-then-not-branch-clause-found : goal.returns-then-not-branch-clause-found
returns-then-not-branch-clause-found c =
    let m = c.args.search.now.matrix.now in
    let d = c.args.corners.now in
    let x = c.line_at.result in
    let S = set_of c.hold.new.self.side in
    let decided = subst (λ (r : GrowthRule). DecidesLeaving m r (x ∷ first_corner d) (second_corner d) 4 c.in_ok-hold.field-0 S) c.rule_at.ensures (rw c.args.search.now.sides_fit at c.in_ok-hold.ensures.decided) in
    no_seed_beside m d c.args.third x c.line_at.ensures.line c.line_at.ensures.number (decided_no m (rule_of d) (x ∷ first_corner d) (second_corner d) 4 c.in_ok-hold.field-0 S decided c.if-not-branch.true)

pub first_of_held-requires-clause-held : goal.first_of_held-requires-clause-held
first_of_held-requires-clause-held c =
    let m = c.args.search.now.matrix.now in
    let side = c.hold.new.self.side in
    record {
      matrix = refl;
      line = c.line_at.result;
      inside = c.line_at.ensures.line;
      number = c.line_at.ensures.number;
      growing = subst (λ (r : GrowthRule). IsGrowing m (upper_of m r) (lower_of m r) (c.line_at.result ∷ first_corner c.args.corners.now) side) c.rule_at.ensures (rw c.args.search.now.sides_fit at c.in_ok-hold.ensures.growing);
    }
