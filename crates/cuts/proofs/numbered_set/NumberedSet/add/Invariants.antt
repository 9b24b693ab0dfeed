use Rattle.std.proofs.Common.{◌≡◌, ◌⊎◌, ◌≤◌, ◌-◌, ℕ, true}
use Rattle.cmr_base.specs.ColumnSets.{has_column}
use Rattle.cuts.specs.CutSides.{HasSetNumbers}
use Rattle.cuts.proofs.numbered_set.NumberedSet.add.Given as goal

abbrev pub invariant-loop-row : goal.invariant-loop-row
invariant-loop-row l = record {
  numbers : HasSetNumbers l.matrix l.self;
  only : (x : ℕ) → has_column l.self.set.words x ≡ true → (has_column l.fn.self.set.words x ≡ true) ⊎ (has_column l.rows.words x ≡ true);
  high : l.from ≤ 1000;
}

abbrev pub decreases-loop-row : goal.decreases-loop-row
decreases-loop-row l = 1001 - l.from
