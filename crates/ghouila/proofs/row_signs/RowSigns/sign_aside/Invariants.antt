use Rattle.std.proofs.Common.{ℕ, ◌≡◌, ◌<◌, ◌≤◌, ◌+ℤ◌, pos, length, slice_index_or, slice_set}
use Rattle.cmr_base.specs.Matrix.{entry}
use Rattle.ghouila.proofs.row_signs.RowSigns.sign_aside.Given as goal

abbrev pub invariant-loop-column : goal.invariant-loop-column
invariant-loop-column l = record {
  signs : l.self.signs.items ≡ slice_set l.fn.self.signs.items l.row (pos 1);
  sum_each : length l.self.sums.items ≡ length l.fn.self.sums.items;
  done : (j : ℕ) → j < l.column → slice_index_or l.self.sums.items j (pos 0) ≡ slice_index_or l.fn.self.sums.items j (pos 0) +ℤ entry l.work l.row j;
  ahead : (j : ℕ) → l.column ≤ j → slice_index_or l.self.sums.items j (pos 0) ≡ slice_index_or l.fn.self.sums.items j (pos 0);
}
