use Rattle.std.proofs.Common.{refl}
use Rattle.line_growth.specs.declared.growing_set.GrowingSet.{GrowingSet}
use Rattle.line_growth.specs.Rules.{lower_of, upper_of}
use Rattle.line_growth.proofs.Sweeps.{exactly_swept, still_grows}
use Rattle.line_growth.proofs.growing_set.GrowingSet.sweep.Goals as goal

pub returns-clause-growing : goal.returns-clause-growing
returns-clause-growing c = λ start g.
    let m = c.args.matrix.now in
    let cleared : GrowingSet = record { rows = c.args.self.now.rows; columns = c.forget_waiting.new.self } in
    still_grows m (upper_of m c.args.rule) (lower_of m c.args.rule) c.args.self.now cleared c.sweep_rows.new.self c.sweep_columns.new.self _
    refl c.forget_waiting.ensures.inside c.in_ok-sweep_rows.ensures.swept c.in_ok-sweep_columns.ensures.swept c.forget_waiting-2.ensures.inside refl start g

pub returns-clause-swept : goal.returns-clause-swept
returns-clause-swept c =
    let m = c.args.matrix.now in
    let cleared : GrowingSet = record { rows = c.args.self.now.rows; columns = c.forget_waiting.new.self } in
    exactly_swept m (upper_of m c.args.rule) (lower_of m c.args.rule) c.args.self.now cleared c.sweep_rows.new.self c.sweep_columns.new.self _
    refl c.forget_waiting.ensures.inside c.in_ok-sweep_rows.ensures.swept c.in_ok-sweep_columns.ensures.swept c.forget_waiting-2.ensures.inside refl
    c.forget_waiting.ensures.none c.forget_waiting-2.ensures.none
