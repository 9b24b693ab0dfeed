use Rattle.std.proofs.Common.{◌≡◌, ◌<◌, ◌≤◌, ◌-◌, ◌*ℤ◌, ℕ}
use Rattle.cmr_base.specs.Matrix.{entry}
use Rattle.network_orient.specs.SignedGroups.{sign_of}
use Rattle.network_orient.proofs.column_groups.ColumnGroups.is_row_multiplied.Given as goal

-- the columns before `place` are multiplied
abbrev pub invariant-loop-column : goal.invariant-loop-column
invariant-loop-column l = record {
  few : l.place ≤ 1000;
  multiplied : (column : ℕ) → column < l.place → entry l.to l.row column ≡ l.sign *ℤ (sign_of l.self.signs.items column *ℤ entry l.from l.row column);
}

abbrev pub decreases-loop-column : goal.decreases-loop-column
decreases-loop-column l = 1001 - l.place
