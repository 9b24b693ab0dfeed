use Rattle.pivots.proofs.PartLaws.{part_pivots_take_violators_back, part_pivots_keep_violators, part_pivots_stay_matrices}
use Rattle.pivots.proofs.laws.part_free.Goals as goal

pub returns-clause-lines : goal.returns-clause-lines
returns-clause-lines c = part_pivots_take_violators_back

pub returns-clause-violators : goal.returns-clause-violators
returns-clause-violators c = part_pivots_keep_violators

pub returns-clause-shape : goal.returns-clause-shape
returns-clause-shape c = part_pivots_stay_matrices
