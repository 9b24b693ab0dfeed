use Rattle.cmr_base.proofs.IncidenceSteps.{AreTaken}
use Rattle.cmr_base.proofs.incidences.Incidences.new.Given as goal

abbrev pub invariant-loop-number : goal.invariant-loop-number
invariant-loop-number l = AreTaken l.arcs l.end l.nodes l.number l.last.items l.previous.items
