use Rattle.std.proofs.Common.{◌<◌, ℕ, pos, slice_index_or}
use Rattle.cmr_base.specs.Matrix.{entry}
use Rattle.cmr_base.specs.Comparisons.{Agrees}
use Rattle.cmr_base.proofs.reproduce.column_agrees.Given as goal

abbrev pub invariant-loop-row : goal.invariant-loop-row
invariant-loop-row l = (row : ℕ) → row < l.row → Agrees l.comparison (entry l.matrix row l.column) (slice_index_or l.directions row (pos 0))
