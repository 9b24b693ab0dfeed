use Rattle.cmr_base.specs.WrittenColumns.{IsColumnWritten}
use Rattle.cmr_base.proofs.network_matrix.write_column.Given as goal

abbrev pub invariant-loop-row : goal.invariant-loop-row
invariant-loop-row l = IsColumnWritten l.fn.matrix l.matrix l.column l.entries l.row
