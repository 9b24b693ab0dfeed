use Rattle.std.proofs.Common.{◌∙◌, ap, filter}
use Rattle.minimal_sets.specs.LeftOut.{is_outside}
use Rattle.minimal_sets.proofs.RunLemmas.{rows_outside, columns_outside}
use Rattle.sp_reduce.proofs.omitted.without_run.Goals as goal
use Rattle.cmr_base.proofs.Places.{members_below}

pub returns-clause-rows : goal.returns-clause-rows
returns-clause-rows c =
    c.in_ok-outside.ensures ∙ ap (filter (is_outside 0 c.args.from c.args.count)) c.as_slice-rows.ensures.items
    ∙ rows_outside c.args.height c.args.from c.args.count c.args.lines.now.rows (members_below c.args.height c.args.lines.now.rows c.requires.rows)

pub returns-clause-columns : goal.returns-clause-columns
returns-clause-columns c =
    c.in_ok-outside-2.ensures ∙ ap (filter (is_outside c.args.height c.args.from c.args.count)) c.as_slice-columns.ensures.items
    ∙ columns_outside c.args.height c.args.from c.args.count c.args.lines.now.columns
