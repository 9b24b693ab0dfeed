use Rattle.std.proofs.Common.{◌≡◌, ◌+ℤ◌, ◌*ℤ◌, take}
use Rattle.std.specs.List.{AllByRecursion}
use Rattle.cmr_base.specs.Matrix.{entry}
use Rattle.cert_check.proofs.spread.is_row_made.Given as goal

abbrev pub invariant-loop-column : goal.invariant-loop-column
invariant-loop-column l = AllByRecursion (λ column. entry l.matrix l.row column ≡ l.factors.first *ℤ entry l.matrix l.second.row column +ℤ l.factors.other *ℤ entry l.matrix l.second.other column) (take l.column-index l.columns)
