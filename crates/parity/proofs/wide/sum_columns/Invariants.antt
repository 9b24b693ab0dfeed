use Rattle.std.proofs.Common.{◌≡◌, ◌<◌, ◌^◌, take}
use Rattle.parity.specs.PlaneSums.{AreSums}
use Rattle.parity.proofs.wide.sum_columns.Given as goal

abbrev pub invariant-loop-row : goal.invariant-loop-row
invariant-loop-row l = record {
  so_far : AreSums l.matrix (take l.row-index l.rows) l.sums.ones l.sums.twos;
  words : l.sums.words ≡ l.fn.sums.words;
  small : l.sums.twos < 2 ^ l.matrix.width;
}
