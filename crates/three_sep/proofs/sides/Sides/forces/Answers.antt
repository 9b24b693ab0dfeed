use Rattle.std.proofs.Common.{◌∷◌, [], ◌∙◌, sym}
use Rattle.cmr_base.proofs.Booleans.{not_is}
use Rattle.line_growth.proofs.SetSteps.{decided_no}
use Rattle.line_growth.specs.GrowingSets.{set_of}
use Rattle.three_sep.proofs.TiedLemmas.{forces_inside, forces_unless_left}
use Rattle.three_sep.proofs.sides.Sides.forces.Goals as goal

pub returns-then-has-clause-forced : goal.returns-then-has-clause-forced
returns-then-has-clause-forced c = λ yes start g. forces_inside c.args.self.now.matrix.now c.args.rule start c.args.line c.args.self.now.grown c.requires.line g (sym c.has.ensures ∙ c.if-has.true)

pub returns-clause-forced : goal.returns-clause-forced
returns-clause-forced c = λ yes start g.
    forces_unless_left c.args.self.now.matrix.now c.args.rule start c.args.line
    (decided_no c.args.self.now.matrix.now c.args.rule start (c.args.line ∷ []) 0 c.in_ok-closed.closed (set_of c.close.new.self)
    (c.in_ok-closed.ensures.closed start g) (not_is c.in_ok-closed.closed yes))
