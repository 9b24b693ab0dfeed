use Rattle.std.proofs.Common.{◌≡◌, pos, take}
use Rattle.std.specs.List.{AllByRecursion}
use Rattle.cmr_base.specs.Matrix.{entry}
use Rattle.cert_check.proofs.blocks.are_zero_rows.Given as goal

abbrev pub invariant-loop-row : goal.invariant-loop-row
invariant-loop-row l = AllByRecursion (λ row. AllByRecursion (λ column. entry l.matrix row column ≡ pos 0) l.columns) (take l.row-index l.rows)
