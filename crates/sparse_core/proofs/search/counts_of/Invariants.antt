use Rattle.std.proofs.Common.{◌≡◌, length}
use Rattle.sparse_core.proofs.search.counts_of.Given as goal

abbrev pub invariant-loop-row : goal.invariant-loop-row
invariant-loop-row l = length l.counts.items ≡ l.row
