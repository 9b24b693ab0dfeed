use Rattle.std.proofs.Common.{◌≡◌, ◌<◌, ◌≤◌, ℕ}
use Rattle.cmr_base.specs.Matrix.{entry}
use Rattle.sum_ops.proofs.corners.are_equal_rows.Given as goal

-- the entries so far are equal
abbrev pub invariant-loop-column : goal.invariant-loop-column
invariant-loop-column l = (column : ℕ) → l.from ≤ column → column < l.column → entry l.matrix l.other column ≡ entry l.matrix l.row column
