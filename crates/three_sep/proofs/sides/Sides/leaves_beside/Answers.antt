use Rattle.std.proofs.Common.{◌∷◌, subst, sym}
use Rattle.line_growth.specs.declared.growing_set.GrowingSet.{GrowingSet}
use Rattle.line_growth.specs.GrowingSets.{IsGrowing}
use Rattle.line_growth.specs.Rules.{lower_of, upper_of}
use Rattle.three_sep.proofs.sides.Sides.leaves_beside.Goals as goal

pub returns-clause-decided : goal.returns-clause-decided
returns-clause-decided c = λ first g.
    let m = c.args.self.now.matrix.now in
    let copied = subst (λ (set : GrowingSet). IsGrowing m (upper_of m c.args.rule) (lower_of m c.args.rule) first set) (sym c.in_ok-copy.ensures.same) g in
    c.in_ok-yes.ensures.closed (c.args.line ∷ first) (c.in_ok-add.ensures.growing _ _ _ first copied)
