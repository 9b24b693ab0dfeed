use Rattle.std.proofs.Common.{◌≡◌, ◌≢◌, true}
use Rattle.sparse_matrix.specs.LineMarks.{is_marked}
use Rattle.sparse_core.proofs.RunsLeft.{SkipsTo}
use Rattle.large_evidence.proofs.lines_left.has_no_other.Given as goal

abbrev pub invariant-loop-nonzero : goal.invariant-loop-nonzero
invariant-loop-nonzero l = SkipsTo (λ k. (k ≢ l.only) × (is_marked l.marks k ≡ true)) l.run l.nonzero-index
