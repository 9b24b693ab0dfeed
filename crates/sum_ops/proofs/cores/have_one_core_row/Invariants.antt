use Rattle.std.proofs.Common.{◌≡◌, ◌<◌, ◌+◌, ◌-◌, ℕ}
use Rattle.cmr_base.specs.Matrix.{height, entry}
use Rattle.sum_ops.proofs.cores.have_one_core_row.Given as goal

-- the entries so far are equal
abbrev pub invariant-loop-column : goal.invariant-loop-column
invariant-loop-column l = (column : ℕ) → column < l.column → entry l.second l.row column ≡ entry l.first ((height l.first - 3) + l.row) ((l.first.width - 3) + column)
