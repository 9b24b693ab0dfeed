use Rattle.std.proofs.Common.{◌&&◌, not}
use Rattle.cmr_base.specs.ColumnSets.{has_column, IsAdded}
use Rattle.cmr_base.proofs.columns.add_outside.Given as goal

abbrev pub invariant-loop-chunk : goal.invariant-loop-chunk
invariant-loop-chunk l = IsAdded (λ column. has_column l.one column && not (has_column l.other column)) l.initial.set.items l.set.items l.chunk
