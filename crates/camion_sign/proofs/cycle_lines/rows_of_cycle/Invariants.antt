use Rattle.cmr_base.specs.CyclePlaces.{cycle_rows}
use Rattle.camion_sign.specs.FaultLines.{IsGathering, left_to_gather}
use Rattle.camion_sign.proofs.cycle_lines.rows_of_cycle.Given as goal

abbrev pub invariant-lines : goal.invariant-lines
invariant-lines l = IsGathering (cycle_rows l.row l.path) l.height l.next l.rows

abbrev pub decreases-lines : goal.decreases-lines
decreases-lines l = left_to_gather l.height l.next
