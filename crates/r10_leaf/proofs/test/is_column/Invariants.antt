use Rattle.std.proofs.Common.{◌≡◌, ◌<◌, ℕ, slice_index}
use Rattle.cmr_base.specs.Matrix.{entry}
use Rattle.cmr_base.specs.R10.{mark}
use Rattle.r10_leaf.specs.Tables.{table_at}
use Rattle.r10_leaf.proofs.test.is_column.Given as goal

abbrev pub invariant-loop-k : goal.invariant-loop-k
invariant-loop-k l = (i : ℕ) → i < l.k → mark (entry l.matrix (slice_index l.rows i) l.column) ≡ table_at l.table i l.place
