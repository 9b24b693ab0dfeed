use Rattle.std.proofs.Common.{◌∷◌, []}
use Rattle.line_growth.specs.declared.rule.Block.TheVariants.{Zero}
use Rattle.line_growth.proofs.SetSteps.{always_closed}
use Rattle.two_sep.proofs.parts.grow_part.Goals as goal

pub returns-clause-grown : goal.returns-clause-grown
returns-clause-grown c = always_closed c.args.matrix.now (record { upper = Zero; lower = Zero }) (c.args.line ∷ []) c.in_ok-close.field-0 _ (c.in_ok-close.ensures.closed (c.args.line ∷ []) (c.in_ok-start.ensures.growing _ _ _))
