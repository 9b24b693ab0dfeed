use Rattle.std.proofs.Common.{◌≤◌, ◌-◌}
use Rattle.three_sep.proofs.row_search.RowSearch.pulls_other.Given as goal

abbrev pub invariant-loop-column : goal.invariant-loop-column
invariant-loop-column l = l.from ≤ 1000

abbrev pub decreases-loop-column : goal.decreases-loop-column
decreases-loop-column l = 1000 - l.from
