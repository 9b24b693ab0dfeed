use Rattle.std.proofs.Common.{◌≡◌, ℕ}
use Rattle.cmr_base.specs.ColumnSets.{has_column}
use Rattle.three_sep.specs.Concentrated.{AreForcedWith}
use Rattle.three_sep.proofs.forced.ForcedColumns.add_more.Given as goal

-- if the columns were forced before, the columns now are, too
abbrev pub invariant-loop-j : goal.invariant-loop-j
invariant-loop-j l = (l.self.matrix.now ≡ l.fn.self.matrix.now)
    × ((i : ℕ) → AreForcedWith l.fn.self.matrix.now i (has_column l.fn.self.columns.words) → AreForcedWith l.fn.self.matrix.now i (has_column l.self.columns.words))
