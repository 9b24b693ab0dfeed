use Rattle.std.proofs.Common.{◌≡◌, ◌<◌, ℕ, true, length}
use Rattle.sparse_matrix.specs.LineMarks.{is_marked}
use Rattle.large_evidence.specs.LineDivisions.{IsCovered, lines_at}
use Rattle.large_evidence.proofs.numbering.are_all_covered.Given as goal

abbrev pub invariant-loop-line : goal.invariant-loop-line
invariant-loop-line l = (line : ℕ) → line < l.line → is_marked l.marks line ≡ true → IsCovered l.found.numbers.items l.found.places.items (lines_at l.side l.parts) (length l.parts) line
