use Rattle.std.proofs.Common.{◌≡◌, ◌<◌, ◌≤◌, ℕ}
use Rattle.cmr_base.specs.Matrix.{entry}
use Rattle.sum_ops.proofs.corners.are_equal_columns.Given as goal

-- the entries so far are equal
abbrev pub invariant-loop-row : goal.invariant-loop-row
invariant-loop-row l = (row : ℕ) → l.from ≤ row → row < l.row → entry l.matrix row l.other ≡ entry l.matrix row l.column
