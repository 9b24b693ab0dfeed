use Rattle.std.proofs.Common.{◌≡◌, ◌+◌, ◌-◌, length}
use Rattle.sparse_core.specs.TwoCores.{IsLater, remaining}
use Rattle.sparse_core.proofs.search.follow.Given as goal

abbrev pub invariant-steps : goal.invariant-steps
invariant-steps l = IsLater l.rows l.fn.core l.core × (length l.row_counts ≡ length l.fn.row_counts) × (length l.column_counts ≡ length l.fn.column_counts)

abbrev pub decreases-steps : goal.decreases-steps
decreases-steps l = (remaining l.core + length l.core.steps.items) - l.head
