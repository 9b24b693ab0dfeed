use Rattle.std.proofs.Common.{◌≡◌, ◌*ℤ◌, take}
use Rattle.std.specs.List.{AllByRecursion}
use Rattle.cmr_base.specs.Matrix.{entry}
use Rattle.cert_check.proofs.blocks.is_made_row.Given as goal

abbrev pub invariant-loop-column : goal.invariant-loop-column
invariant-loop-column l = AllByRecursion (λ column. entry l.matrix l.row column ≡ (entry l.matrix l.row l.j *ℤ entry l.matrix l.i l.j) *ℤ entry l.matrix l.i column) (take l.column-index l.columns)
