use Rattle.std.proofs.Common.{◌≡◌, pos, take}
use Rattle.std.specs.List.{AllByRecursion}
use Rattle.cmr_base.specs.Matrix.{entry}
use Rattle.cert_check.proofs.blocks.is_zero_row.Given as goal

abbrev pub invariant-loop-column : goal.invariant-loop-column
invariant-loop-column l = AllByRecursion (λ column. entry l.matrix l.row column ≡ pos 0) (take l.column-index l.columns)
