use Rattle.std.proofs.Common.{◌+◌, ◌*◌, vec_len}
use Rattle.ghouila.proofs.by_pivots.+sign_rows.Given as goal

abbrev pub decreases-sign_left : goal.decreases-sign_left
decreases-sign_left l = 2 * vec_len l.left + 1

abbrev pub decreases-sign_by_pivot : goal.decreases-sign_by_pivot
decreases-sign_by_pivot l = 2 * vec_len l.left + 2

abbrev pub decreases-sign_aside : goal.decreases-sign_aside
decreases-sign_aside l = 2 * vec_len l.left + 2
