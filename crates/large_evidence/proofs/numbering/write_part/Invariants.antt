use Rattle.large_evidence.specs.LineDivisions.{HasPlacesFor}
use Rattle.large_evidence.proofs.numbering.write_part.Given as goal

abbrev pub invariant-loop-line : goal.invariant-loop-line
invariant-loop-line l = HasPlacesFor l._count l.found
