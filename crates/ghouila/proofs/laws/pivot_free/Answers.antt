use Rattle.ghouila.proofs.PivotLaws.{pivots_undo_themselves, pivots_take_violators_back, pivots_keep_violators, pivots_decide}
use Rattle.ghouila.proofs.laws.pivot_free.Goals as goal

pub returns-clause-undo : goal.returns-clause-undo
returns-clause-undo c = pivots_undo_themselves

pub returns-clause-lines : goal.returns-clause-lines
returns-clause-lines c = pivots_take_violators_back

pub returns-clause-violators : goal.returns-clause-violators
returns-clause-violators c = pivots_keep_violators

pub returns-clause-unimodular : goal.returns-clause-unimodular
returns-clause-unimodular c = pivots_decide
