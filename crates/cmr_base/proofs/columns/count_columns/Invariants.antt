use Rattle.std.proofs.Common.{◌≡◌, ◌≤◌, ◌-◌, count_by}
use Rattle.cmr_base.specs.LineSets.{first_lines}
use Rattle.cmr_base.specs.ColumnSets.{has_column}
use Rattle.cmr_base.proofs.columns.count_columns.Given as goal

abbrev pub invariant-loop-column : goal.invariant-loop-column
invariant-loop-column l = record {
  counted : l.count ≡ count_by (has_column l.set) (first_lines l.from);
  few : l.count ≤ l.from;
  inside : l.from ≤ 1024;
}

abbrev pub decreases-loop-column : goal.decreases-loop-column
decreases-loop-column l = 1025 - l.from
