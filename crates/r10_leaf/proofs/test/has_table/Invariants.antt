use Rattle.std.proofs.Common.{◌<◌, ℕ}
use Rattle.r10_leaf.specs.Tables.{HasTableColumns, rows_numbered}
use Rattle.r10_leaf.proofs.test.has_table.Given as goal

abbrev pub invariant-loop-number : goal.invariant-loop-number
invariant-loop-number l = (n : ℕ) → n < l.number → ¬ (HasTableColumns l.matrix l.table (rows_numbered n))
