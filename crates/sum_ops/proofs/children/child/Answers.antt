use Rattle.std.proofs.Common.{◌∙◌}
use Rattle.sum_ops.proofs.ChildCounts.{chosen_rows, chosen_columns, fewer_in_child}
use Rattle.sum_ops.proofs.children.child.Goals as goal

pub returns-clause-lines : goal.returns-clause-lines
returns-clause-lines c = record {
  rows = c.in_ok-child_rows.ensures.child ∙ chosen_rows c.args.inside c.args.side.now.rows c.args.side.now.columns c.args.more.now c.args.lines.now.rows;
  columns = c.in_ok-child_columns.ensures.child ∙ chosen_columns c.args.inside c.args.side.now.rows c.args.side.now.columns c.args.more.now c.args.lines.now.columns;
}

pub returns-clause-fewer : goal.returns-clause-fewer
returns-clause-fewer c = λ least enough few.
    fewer_in_child c.args.lines.now c.args.inside c.args.side.now.rows c.args.side.now.columns c.args.more.now least _ c.in_ok-child_rows.ensures.increasing c.in_ok-child_columns.ensures.increasing enough few (record {
      rows = c.in_ok-child_rows.ensures.child ∙ chosen_rows c.args.inside c.args.side.now.rows c.args.side.now.columns c.args.more.now c.args.lines.now.rows;
      columns = c.in_ok-child_columns.ensures.child ∙ chosen_columns c.args.inside c.args.side.now.rows c.args.side.now.columns c.args.more.now c.args.lines.now.columns;
    })
