use Rattle.std.proofs.Common.{◌∷◌}
use Rattle.three_sep.proofs.sides.Sides.leaves_with.Goals as goal

pub returns-clause-decided : goal.returns-clause-decided
returns-clause-decided c = c.in_ok-yes.ensures.closed (c.args.line ∷ c.args.first.now) (c.in_ok-add.ensures.growing _ _ _ c.args.first.now (c.in_ok-start.ensures.growing _ _ _))
