use Rattle.std.proofs.Common.{◌≡◌, length}
use Rattle.sparse_core.specs.TwoCores.{IsLater}
use Rattle.sparse_core.proofs.removal.remove_rows.Given as goal

abbrev pub invariant-loop-nonzero : goal.invariant-loop-nonzero
invariant-loop-nonzero l = IsLater l.rows l.fn.core l.core × (length l.counts ≡ length l.fn.counts)
