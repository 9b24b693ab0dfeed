use Rattle.cmr_base.specs.CyclePlaces.{cycle_columns}
use Rattle.camion_sign.specs.FaultLines.{IsGathering, left_to_gather}
use Rattle.camion_sign.proofs.cycle_lines.columns_of_cycle.Given as goal

abbrev pub invariant-lines : goal.invariant-lines
invariant-lines l = IsGathering (cycle_columns l.first l.last l.path) l.width l.next l.columns

abbrev pub decreases-lines : goal.decreases-lines
decreases-lines l = left_to_gather l.width l.next
