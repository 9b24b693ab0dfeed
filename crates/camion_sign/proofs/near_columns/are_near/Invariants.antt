use Rattle.std.proofs.Common.{◌≡◌, ◌≤◌, ◌-◌, ℕ, true}
use Rattle.cmr_base.specs.Matrix.{height}
use Rattle.cmr_base.specs.ColumnSets.{has_column}
use Rattle.camion_sign.specs.NearColumns.{ShareEarlier}
use Rattle.camion_sign.proofs.near_columns.are_near.Given as goal

abbrev pub invariant-loop-row : goal.invariant-loop-row
invariant-loop-row l = record {
  size : l.near.size ≡ l.fn.near.size;
  shares : (d : ℕ) → has_column l.near.words d ≡ true → ShareEarlier l.matrix l.fn.start.row l.fn.start.column d;
  inside : l.from ≤ height l.matrix;
}

abbrev pub decreases-loop-row : goal.decreases-loop-row
decreases-loop-row l = height l.matrix - l.from
