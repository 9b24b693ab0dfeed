use Rattle.std.proofs.Common.{◌≡◌, take}
use Rattle.ghouila.proofs.by_pivots.copy_of_rows.Given as goal

abbrev pub invariant-loop-row : goal.invariant-loop-row
invariant-loop-row l = l.left.items ≡ take l.row-index l.row-items
