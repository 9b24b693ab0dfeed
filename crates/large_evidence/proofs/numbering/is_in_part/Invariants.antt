use Rattle.std.proofs.Common.{◌≡◌, ◌≢◌, true}
use Rattle.sparse_matrix.specs.LineMarks.{is_marked}
use Rattle.sparse_core.proofs.RunsLeft.{SkipsTo}
use Rattle.part_numbers.specs.PartNumbering.{part_number}
use Rattle.large_evidence.proofs.numbering.is_in_part.Given as goal

abbrev pub invariant-loop-nonzero : goal.invariant-loop-nonzero
invariant-loop-nonzero l = SkipsTo (λ k. (part_number l.numbers k ≢ l.number) × (is_marked l.marks k ≡ true)) l.run l.nonzero-index
