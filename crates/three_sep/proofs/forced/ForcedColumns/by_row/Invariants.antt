use Rattle.std.proofs.Common.{◌≡◌}
use Rattle.cmr_base.specs.ColumnSets.{has_column}
use Rattle.three_sep.specs.Concentrated.{AreForcedWith}
use Rattle.three_sep.proofs.forced.ForcedColumns.by_row.Given as goal

abbrev pub invariant-loop-round : goal.invariant-loop-round
invariant-loop-round l = (l.forced.matrix.now ≡ l.fn.matrix) × AreForcedWith l.fn.matrix l.i (has_column l.forced.columns.words)
