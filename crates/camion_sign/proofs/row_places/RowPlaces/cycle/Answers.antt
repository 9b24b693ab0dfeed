use Rattle.camion_sign.proofs.ForcedCycles.{exchanged}
use Rattle.camion_sign.proofs.row_places.RowPlaces.cycle.Goals as goal

pub returns-else-partner-column-clause-cycle : goal.returns-else-partner-column-clause-cycle
returns-else-partner-column-clause-cycle c = exchanged c.args.matrix.now c.args.row c.args.column c.args.partner c.cycle_from-else-partner-column.result c.cycle_from-else-partner-column.ensures.cycle
