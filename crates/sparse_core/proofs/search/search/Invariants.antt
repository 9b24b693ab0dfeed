use Rattle.std.proofs.Common.{◌≡◌, ◌+◌, length, if◌then◌else◌, false}
use Rattle.sparse_core.specs.TwoCores.{HasRemoved, LinesHaveTwo, remaining}
use Rattle.sparse_core.proofs.search.search.Given as goal

abbrev pub invariant-passes : goal.invariant-passes
invariant-passes l = HasRemoved l.rows l.core × (l.more ≡ false → LinesHaveTwo l.rows l.core) × (length l.row_counts ≡ length l.fn.row_counts) × (length l.column_counts ≡ length l.fn.column_counts)

abbrev pub decreases-passes : goal.decreases-passes
decreases-passes l = if l.more then remaining l.core + 1 else 0
