use Rattle.std.proofs.Common.{◌≡◌, ◌*ℤ◌, take}
use Rattle.std.specs.List.{AllByRecursion}
use Rattle.cmr_base.specs.Matrix.{entry}
use Rattle.cert_check.proofs.blocks.are_made_rows.Given as goal

abbrev pub invariant-loop-row : goal.invariant-loop-row
invariant-loop-row l = AllByRecursion (λ row. AllByRecursion (λ column. entry l.matrix row column ≡ (entry l.matrix row l.j *ℤ entry l.matrix l.i l.j) *ℤ entry l.matrix l.i column) l.columns) (take l.row-index l.rows)
