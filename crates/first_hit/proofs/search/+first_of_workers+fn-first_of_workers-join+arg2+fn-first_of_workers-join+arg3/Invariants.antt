use Rattle.std.proofs.Common.{◌+◌, ◌-◌, ◌*◌}
use Rattle.first_hit.proofs.search.+first_of_workers+fn-first_of_workers-join+arg2+fn-first_of_workers-join+arg3.Given as goal

abbrev pub decreases-first_of_workers : goal.decreases-first_of_workers
decreases-first_of_workers g l = 2 * (l.high - l.low)

abbrev pub decreases-join+arg2 : goal.decreases-join+arg2
decreases-join+arg2 g l = 2 * (l.middle - l.low) + 1

abbrev pub decreases-join+arg3 : goal.decreases-join+arg3
decreases-join+arg3 g l = 2 * (l.high - l.middle) + 1
