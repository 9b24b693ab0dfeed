use Rattle.std.proofs.Common.{ℕ, ◌<◌}
use Rattle.sparse_core.specs.TwoCores.{IsScanned, RowHasTwo}
use Rattle.sparse_core.proofs.search.scan_rows.Given as goal

abbrev pub invariant-loop-row : goal.invariant-loop-row
invariant-loop-row l = IsScanned l.rows l.fn.core l.core l.more ((row : ℕ) → row < l.row → RowHasTwo l.rows l.core row)
