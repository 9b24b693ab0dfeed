use Rattle.std.proofs.Common.{◌≤◌}
use Rattle.part_numbers.specs.PartSearches.{FollowsAll, HasRowsBefore}
use Rattle.part_numbers.proofs.search.find_all.Given as goal

abbrev pub invariant-loop-row : goal.invariant-loop-row
invariant-loop-row l = FollowsAll l.rows l.core l.part l.search × HasRowsBefore l.core l.search l.row l.part × (l.part ≤ l.row)
