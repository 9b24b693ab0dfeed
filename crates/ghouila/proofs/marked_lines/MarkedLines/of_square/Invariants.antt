use Rattle.std.proofs.Common.{ℕ, ◌≡◌, ◌<◌, ◌+ℤ◌, false, length, slice_index_or}
use Rattle.cmr_base.specs.Matrix.{entry}
use Rattle.ghouila.specs.Found.{HasParity}
use Rattle.ghouila.proofs.marked_lines.MarkedLines.of_square.Given as goal

abbrev pub invariant-loop-place : goal.invariant-loop-place
invariant-loop-place l = record {
  rows : l.lines.rows.items ≡ l.initial.lines.rows.items;
  columns : l.lines.columns.items ≡ l.initial.lines.columns.items;
  odd_each : length l.lines.odd.items ≡ l.work.width;
  parity : (j : ℕ) → j < l.place → HasParity (slice_index_or l.lines.odd.items j false) (entry l.work l.row j +ℤ entry l.work l.corner.row j);
}
