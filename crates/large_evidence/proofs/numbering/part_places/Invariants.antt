use Rattle.large_evidence.specs.LineDivisions.{HasPlacesFor}
use Rattle.large_evidence.proofs.numbering.part_places.Given as goal

abbrev pub invariant-loop-number : goal.invariant-loop-number
invariant-loop-number l = HasPlacesFor l.count l.found
