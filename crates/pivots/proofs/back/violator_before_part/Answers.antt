use Rattle.std.proofs.Common.{get_or, Contains}
use Rattle.cmr_base.specs.Matrix.{height}
use Rattle.cmr_base.proofs.Lists.{all_at}
use Rattle.cmr_base.proofs.Places.{contained_below}
use Rattle.pivots.proofs.PartLaws.{lines_before_among, violator_of_pivot}
use Rattle.pivots.proofs.back.violator_before_part.Goals as goal

pub violator_before-requires-clause-row : goal.violator_before-requires-clause-row
violator_before-requires-clause-row c = contained_below (height c.args.matrix.now) c.args._lines.now.rows c.args.place.row c.requires.rows.in_range c.requires.place.row

pub violator_before-requires-clause-column : goal.violator_before-requires-clause-column
violator_before-requires-clause-column c = contained_below c.args.matrix.now.width c.args._lines.now.columns c.args.place.column c.requires.columns.in_range c.requires.place.column

pub violator_before-requires-clause-rows : goal.violator_before-requires-clause-rows
violator_before-requires-clause-rows c = λ k h.
    contained_below (height c.args.matrix.now) c.args._lines.now.rows (get_or c.args.fault.now.rows k 0) c.requires.rows.in_range (all_at (Contains c.args._lines.now.rows) c.args.fault.now.rows k 0 c.requires.among.rows h)

pub violator_before-requires-clause-columns : goal.violator_before-requires-clause-columns
violator_before-requires-clause-columns c = λ k h.
    contained_below c.args.matrix.now.width c.args._lines.now.columns (get_or c.args.fault.now.columns k 0) c.requires.columns.in_range (all_at (Contains c.args._lines.now.columns) c.args.fault.now.columns k 0 c.requires.among.columns h)

pub returns-clause-among : goal.returns-clause-among
returns-clause-among c =
    lines_before_among c.args.matrix.now c.args._lines.now c.args.place c.args.fault.now.rows c.args.fault.now.columns c.in_ok-before.before.rows c.in_ok-before.before.columns c.requires.place c.requires.among c.in_ok-before.ensures.lines

pub returns-clause-violator : goal.returns-clause-violator
returns-clause-violator c = λ v. c.in_ok-before.ensures.violator
    (violator_of_pivot c.args.matrix.now c.args._lines.now c.args.place c.requires.rows c.requires.columns c.args.fault.now.rows c.args.fault.now.columns c.requires.among v)
