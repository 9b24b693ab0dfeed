use Rattle.std.proofs.Common.{◌≡◌, length, replicate, pos}
use Rattle.cmr_base.proofs.ColumnSteps.{ArePathsWritten}
use Rattle.cmr_base.proofs.network_matrix.matrix_of_paths.Given as goal

abbrev pub invariant-loop-column : goal.invariant-loop-column
invariant-loop-column l = (l.directions.items ≡ replicate (length l.arcs) (pos 0)) × ArePathsWritten l.arcs l.walks l.matrix l.column
