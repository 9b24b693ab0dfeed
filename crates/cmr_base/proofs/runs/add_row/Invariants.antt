use Rattle.std.proofs.Common.{◌*◌}
use Rattle.cmr_base.specs.Runs.{IsRowChosen, end_before}
use Rattle.cmr_base.proofs.runs.add_row.Given as goal

-- the columns of the runs so far
abbrev pub invariant-loop-number : goal.invariant-loop-number
invariant-loop-number l = IsRowChosen l.words l._columns (64 * l.at) (end_before l.runs l.number) l.initial.made.items l.made.items
