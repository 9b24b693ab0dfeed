use Rattle.std.proofs.Common.{◌≡◌, ◌≢◌, ℕ, true, slice_index_or}
use Rattle.cmr_base.specs.ColumnSets.{has_column}
use Rattle.cuts.proofs.line_classes.LineClasses.others.Given as goal

abbrev pub invariant-loop-row : goal.invariant-loop-row
invariant-loop-row l = (l.set.size ≡ l.self.own.now.size) × ((x : ℕ) → has_column l.set.words x ≡ true → (slice_index_or l.self.numbers.now x 0 ≢ 0) × (slice_index_or l.self.numbers.now x 0 ≢ l.class))
