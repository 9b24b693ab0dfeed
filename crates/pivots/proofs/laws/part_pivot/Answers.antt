use Rattle.pivots.proofs.PartPivots.{part_pivots_are_pivots, part_pivots_decide}
use Rattle.pivots.proofs.laws.part_pivot.Goals as goal

pub returns-clause-pivot : goal.returns-clause-pivot
returns-clause-pivot c = part_pivots_are_pivots

pub returns-clause-unimodular : goal.returns-clause-unimodular
returns-clause-unimodular c = part_pivots_decide
