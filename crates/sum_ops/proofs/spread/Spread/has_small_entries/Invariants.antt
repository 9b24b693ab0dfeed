use Rattle.std.proofs.Common.{◌<◌, ◌≤◌, ℕ}
use Rattle.cmr_base.specs.Matrix.{IsEntry}
use Rattle.sum_ops.specs.Spreads.{spread_entry}
use Rattle.sum_ops.proofs.spread.Spread.has_small_entries.Given as goal

-- the entries of the rows so far are -1, 0 or 1
abbrev pub invariant-loop-row : goal.invariant-loop-row
invariant-loop-row l = (row column : ℕ) → 1 ≤ row → row < l.row → column < l.columns → IsEntry (spread_entry l.self l.first l.second row column)
