use Rattle.std.proofs.Common.{◌≡◌, ◌≢◌, true}
use Rattle.sparse_matrix.specs.LineMarks.{is_marked}
use Rattle.sparse_core.proofs.RunsLeft.{SkipsTo}
use Rattle.sparse_core.proofs.nonzeros.other_left.Given as goal

abbrev pub invariant-loop-nonzero : goal.invariant-loop-nonzero
invariant-loop-nonzero l = SkipsTo (λ k. (k ≢ l.first) × (is_marked l.remains k ≡ true)) l.run l.nonzero-index
