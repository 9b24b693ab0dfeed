use Rattle.std.proofs.Common.{◌≡◌, ◌≢◌, ◌<◌, ◌≤◌, ◌-◌, ℕ, pos}
use Rattle.cmr_base.specs.Matrix.{entry}
use Rattle.cmr_base.specs.ColumnSets.{has_column}
use Rattle.camion_sign.proofs.NearFaults.{IsIfTouched}
use Rattle.camion_sign.proofs.near_columns.add_touched.Given as goal

abbrev pub invariant-loop-column : goal.invariant-loop-column
invariant-loop-column l = record {
  size : l.columns.size ≡ l.fn.columns.size;
  added : (d : ℕ) → d < l.from → entry l.matrix l.row d ≢ pos 0 → IsIfTouched l.matrix l.row (has_column l.columns.words) d;
  inside : l.from ≤ l.matrix.width;
}

abbrev pub decreases-loop-column : goal.decreases-loop-column
decreases-loop-column l = l.matrix.width - l.from
