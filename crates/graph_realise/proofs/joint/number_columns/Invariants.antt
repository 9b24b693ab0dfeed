use Rattle.std.proofs.Common.{◌≡◌, ◌<◌, ◌≤◌, ◌-◌, ℕ, true, false, length}
use Rattle.cmr_base.specs.ColumnSets.{has_column}
use Rattle.graph_realise.specs.Joints.{number_at}
use Rattle.graph_realise.proofs.joint.number_columns.Given as goal

abbrev pub invariant-loop-column : goal.invariant-loop-column
invariant-loop-column l = record {
  size : length l.numbers.items ≡ length l.initial.numbers.items;
  done : (column : ℕ) → column < l.from → has_column l.columns.words column ≡ true → number_at l.numbers.items column ≡ l.number;
  passed : (column : ℕ) → column < l.from → has_column l.columns.words column ≡ false → number_at l.numbers.items column ≡ number_at l.initial.numbers.items column;
  left : (column : ℕ) → l.from ≤ column → number_at l.numbers.items column ≡ number_at l.initial.numbers.items column;
  few : l.from ≤ l.columns.size;
}

abbrev pub decreases-loop-column : goal.decreases-loop-column
decreases-loop-column l = l.columns.size - l.from
