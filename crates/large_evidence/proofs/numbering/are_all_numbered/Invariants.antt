use Rattle.std.proofs.Common.{◌<◌, ℕ}
use Rattle.large_evidence.specs.LineDivisions.{AreAtNumbers, lines_at}
use Rattle.large_evidence.proofs.numbering.are_all_numbered.Given as goal

abbrev pub invariant-loop-number : goal.invariant-loop-number
invariant-loop-number l = (part : ℕ) → part < l.number → AreAtNumbers l.marks l.found.numbers.items l.found.places.items part (lines_at l.side l.parts part)
