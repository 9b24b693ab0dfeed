use Rattle.std.proofs.Common.{◌<◌, ℕ}
use Rattle.cmr_base.specs.Matrix.{IsEntry}
use Rattle.sum_ops.specs.Spreads.{spread_entry}
use Rattle.sum_ops.proofs.spread.Spread.has_small_row.Given as goal

-- the entries so far are -1, 0 or 1
abbrev pub invariant-loop-column : goal.invariant-loop-column
invariant-loop-column l = (column : ℕ) → column < l.column → IsEntry (spread_entry l.self l.first l.second l.row column)
