use Rattle.cmr_base.specs.ColumnSets.{has_column, IsAdded}
use Rattle.cmr_base.proofs.columns.add_set.Given as goal

abbrev pub invariant-loop-block : goal.invariant-loop-block
invariant-loop-block l = IsAdded (λ column. has_column l.other column) l.initial.set.items l.set.items l.block
