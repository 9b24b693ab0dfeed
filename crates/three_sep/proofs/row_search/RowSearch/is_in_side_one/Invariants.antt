use Rattle.std.proofs.Common.{◌≤◌, ◌-◌}
use Rattle.three_sep.proofs.row_search.RowSearch.is_in_side_one.Given as goal

abbrev pub invariant-loop-row : goal.invariant-loop-row
invariant-loop-row l = l.from ≤ 1000

abbrev pub decreases-loop-row : goal.decreases-loop-row
decreases-loop-row l = 1000 - l.from
