use Rattle.std.proofs.Common.{take}
use Rattle.std.specs.List.{AllByRecursion}
use Rattle.cmr_base.specs.Matrix.{entry}
use Rattle.cmr_base.specs.Sums.{sum_over, IsEven}
use Rattle.parity.proofs.violator.have_even_columns.Given as goal

abbrev pub invariant-loop-column : goal.invariant-loop-column
invariant-loop-column l = AllByRecursion (λ column. IsEven (sum_over l.rows (λ row. entry l.matrix row column))) (take l.column-index l.columns)
