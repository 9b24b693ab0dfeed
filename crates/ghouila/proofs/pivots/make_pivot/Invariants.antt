use Rattle.std.proofs.Common.{take}
use Rattle.ghouila.specs.Pivot.{KeepsRowsElsewhere, PivotsRows}
use Rattle.ghouila.proofs.pivots.make_pivot.Given as goal

abbrev pub invariant-loop-other : goal.invariant-loop-other
invariant-loop-other l = record {
  pivoted : PivotsRows l.initial.work l.work l.row l.column (take l.other-index l.left);
  others : KeepsRowsElsewhere l.initial.work l.work (take l.other-index l.left);
}
