use Rattle.line_growth.specs.Rules.{lower_of, upper_of}
use Rattle.line_growth.proofs.SetSteps.{row_step}
use Rattle.line_growth.proofs.growing_set.GrowingSet.follow_row.Goals as goal

pub returns-in_ok-pull-clause-growing : goal.returns-in_ok-pull-clause-growing
returns-in_ok-pull-clause-growing c =
    let m = c.args.matrix.now in
    row_step m (upper_of m c.args.rule) (lower_of m c.args.rule) c.args.self.now _ c.requires.size c.in-Some.row c.by_rows.result.now c.row-sum.result c.by_rows.ensures.matrix c.in-Some.ensures c.in_ok-pull.ensures.pulled c.row-sum.ensures.value
