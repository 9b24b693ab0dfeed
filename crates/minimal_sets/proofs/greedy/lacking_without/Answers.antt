use Rattle.cmr_base.specs.Matrix.{height}
use Rattle.minimal_sets.specs.LeftOut.{lines_between}
use Rattle.minimal_sets.proofs.Passes.{row_set_left, column_set_left}
use Rattle.minimal_sets.proofs.greedy.lacking_without.Goals as goal

pub holds_on-requires-clause-rows : goal.holds_on-requires-clause-rows
holds_on-requires-clause-rows g c =
    rw (c.in_ok-fewer.ensures.rows, c.rows.ensures.rows)
    (row_set_left c.args.matrix.now c.args.lines.now.rows (lines_between (height c.args.matrix.now) c.args.from c.args.count) c.requires.rows)

pub holds_on-requires-clause-columns : goal.holds_on-requires-clause-columns
holds_on-requires-clause-columns g c =
    rw (c.in_ok-fewer.ensures.columns, c.rows.ensures.rows)
    (column_set_left c.args.matrix.now c.args.lines.now.columns (lines_between (height c.args.matrix.now) c.args.from c.args.count) c.requires.columns)
