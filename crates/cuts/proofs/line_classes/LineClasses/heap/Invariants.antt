use Rattle.std.proofs.Common.{◌≡◌, ℕ, true, slice_index_or}
use Rattle.cmr_base.specs.ColumnSets.{has_column}
use Rattle.cuts.specs.Classes.{is_in_heap}
use Rattle.cuts.proofs.line_classes.LineClasses.heap.Given as goal

abbrev pub invariant-loop-row : goal.invariant-loop-row
invariant-loop-row l = (l.set.size ≡ l.self.own.now.size) × ((x : ℕ) → has_column l.set.words x ≡ true → is_in_heap l.heaps (slice_index_or l.self.numbers.now x 0) l.inside ≡ true)
