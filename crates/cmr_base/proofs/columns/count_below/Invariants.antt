use Rattle.std.proofs.Common.{◌≡◌, ◌≤◌, ◌*◌, min}
use Rattle.cmr_base.specs.ColumnSets.{has_column}
use Rattle.cmr_base.specs.Seeds.{count}
use Rattle.cmr_base.proofs.columns.count_below.Given as goal

abbrev pub invariant-loop-chunk : goal.invariant-loop-chunk
invariant-loop-chunk l = record {
  counted : l.count ≡ count (has_column l.set) (min (64 * l.chunk) l.columns);
  few : l.count ≤ min (64 * l.chunk) l.columns;
}
