use Rattle.std.proofs.Common.{◌≡◌}
use Rattle.first_hit.specs.First.{NoneBetween}
use Rattle.leaf_enumerate.specs.RowSets.{HasColumnSet}
use Rattle.leaf_enumerate.proofs.violators.first_row_set.Given as goal

abbrev pub invariant-loop-number : goal.invariant-loop-number
invariant-loop-number l = record {
  same : l.search ≡ l.matrix;
  none : NoneBetween (HasColumnSet l.matrix) l.from l.number;
}
