use Rattle.std.proofs.Common.{take}
use Rattle.bridge_split.specs.Counting.{AreCounts}
use Rattle.bridge_split.proofs.counts.Counts.of.Given as goal

abbrev pub invariant-loop-row : goal.invariant-loop-row
invariant-loop-row l = AreCounts l.matrix (take l.row-index l.rows) l.counts
