use Rattle.std.proofs.Common.{◌<◌, ℕ}
use Rattle.r10_leaf.specs.Tables.{IsColumn}
use Rattle.r10_leaf.proofs.test.has_column.Given as goal

abbrev pub invariant-loop-column : goal.invariant-loop-column
invariant-loop-column l = (j : ℕ) → j < l.column → ¬ (IsColumn l.matrix l.table l.rows l.place j)
