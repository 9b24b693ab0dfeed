use Rattle.std.proofs.Common.{◌≡◌, ◌<◌, ◌+◌, ◌-◌, ℕ}
use Rattle.cmr_base.specs.Matrix.{height, entry}
use Rattle.sum_ops.proofs.cores.have_one_core.Given as goal

-- the rows so far are equal
abbrev pub invariant-loop-row : goal.invariant-loop-row
invariant-loop-row l = (row column : ℕ) → row < l.row → column < 3 → entry l.second row column ≡ entry l.first ((height l.first - 3) + row) ((l.first.width - 3) + column)
