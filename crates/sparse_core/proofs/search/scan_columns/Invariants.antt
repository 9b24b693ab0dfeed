use Rattle.std.proofs.Common.{ℕ, ◌<◌}
use Rattle.sparse_core.specs.TwoCores.{IsScanned, ColumnHasTwo}
use Rattle.sparse_core.proofs.search.scan_columns.Given as goal

abbrev pub invariant-loop-column : goal.invariant-loop-column
invariant-loop-column l = IsScanned l.rows l.fn.core l.core l.more ((column : ℕ) → column < l.column → ColumnHasTwo l.rows l.core column)
