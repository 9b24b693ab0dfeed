use Rattle.std.proofs.Common.{◌≡◌, ◌<◌, ◌≤◌, ◌-◌, ℕ, false}
use Rattle.cmr_base.specs.ColumnSets.{has_column}
use Rattle.cmr_base.proofs.columns.next_column.Given as goal

-- no column so far
abbrev pub invariant-loop-column : goal.invariant-loop-column
invariant-loop-column l = record {
  low : l.from ≤ l.column;
  none : (c : ℕ) → l.from ≤ c → c < l.column → has_column l.set c ≡ false;
  high : l.column ≤ 1087;
}

abbrev pub decreases-loop-column : goal.decreases-loop-column
decreases-loop-column l = 1087 - l.column
