use Rattle.std.proofs.Common.{◌<◌, subst, sym, arith}
use Rattle.cmr_base.specs.Matrix.{Matrix, height}
use Rattle.cmr_base.proofs.Parts.{height-transposed}
use Rattle.line_growth.specs.Rules.{lower_of, upper_of}
use Rattle.line_growth.proofs.SetSteps.{column_step}
use Rattle.line_growth.proofs.growing_set.GrowingSet.follow_column.Goals as goal

pub returns-in_ok-pull-clause-growing : goal.returns-in_ok-pull-clause-growing
returns-in_ok-pull-clause-growing c =
    let m = c.args.matrix.now in
    column_step m (upper_of m c.args.rule) (lower_of m c.args.rule) c.args.self.now _ c.requires.size c.by_columns.ensures.shape c.in-Some.column c.by_columns.result.now c.column-sum.result c.by_columns.ensures.matrix c.in-Some.ensures c.in_ok-pull.ensures.pulled
    c.column-sum.ensures.value

pub pull-requires-clause-row : goal.pull-requires-clause-row
pull-requires-clause-row c = subst (λ (n : Matrix). c.in-Some.column < height n) (sym c.by_columns.ensures.matrix) (let h = height-transposed c.args.matrix.now in omega (arith, h, c.in-Some.ensures.line_in, c.requires.size.columns))
