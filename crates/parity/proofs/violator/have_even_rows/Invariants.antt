use Rattle.std.proofs.Common.{take}
use Rattle.std.specs.List.{AllByRecursion}
use Rattle.cmr_base.specs.Matrix.{entry}
use Rattle.cmr_base.specs.Sums.{sum_over, IsEven}
use Rattle.parity.proofs.violator.have_even_rows.Given as goal

abbrev pub invariant-loop-row : goal.invariant-loop-row
invariant-loop-row l = AllByRecursion (λ row. IsEven (sum_over l.columns (λ column. entry l.matrix row column))) (take l.row-index l.rows)
