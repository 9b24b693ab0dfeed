use Rattle.std.proofs.Common.{◌≡◌, ◌≢◌, ◌<◌, ◌≤◌, ◌-◌, ◌⊎◌, ℕ, true, pos}
use Rattle.cmr_base.specs.Matrix.{entry}
use Rattle.cmr_base.specs.ColumnSets.{has_column}
use Rattle.camion_sign.proofs.reach.pass_earlier.Given as goal

abbrev pub invariant-loop-column : goal.invariant-loop-column
invariant-loop-column l = record {
  size : l.reached.size ≡ l.fn.reached.size;
  only : (x : ℕ) → has_column l.reached.words x ≡ true → (has_column l.fn.reached.words x ≡ true) ⊎ ((entry l.matrix l.fn.start.row x ≢ pos 0) × (x < l.fn.start.column));
  kept : (x : ℕ) → has_column l.fn.reached.words x ≡ true → has_column l.reached.words x ≡ true;
  inside : l.from ≤ l.matrix.width;
}

abbrev pub decreases-loop-column : goal.decreases-loop-column
decreases-loop-column l = l.matrix.width - l.from
