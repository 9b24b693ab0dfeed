use Rattle.std.proofs.Common.{◌<◌, ℕ, get_or}
use Rattle.large_evidence.specs.LineDivisions.{IsAtNumber}
use Rattle.large_evidence.proofs.numbering.are_numbered.Given as goal

abbrev pub invariant-loop-place : goal.invariant-loop-place
invariant-loop-place l = (place : ℕ) → place < l.place → IsAtNumber l.marks l.found.numbers.items l.found.places.items l.number place (get_or l.lines place 0)
