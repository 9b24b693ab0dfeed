use Rattle.std.proofs.Common.{◌<◌, ◌^◌, take}
use Rattle.parity.specs.PlaneSums.{AreSums}
use Rattle.parity.proofs.narrow.sum_rows.Given as goal

abbrev pub invariant-loop-row : goal.invariant-loop-row
invariant-loop-row l = record {
  so_far : AreSums l.matrix (take l.row-index l.rows) l.ones l.twos;
  small : l.twos < 2 ^ l.matrix.width;
}
