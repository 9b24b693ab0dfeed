use Rattle.ghouila.proofs.PivotColumns.{AreScanned}
use Rattle.ghouila.proofs.pivots.pivot_columns.Given as goal

abbrev pub invariant-loop-row : goal.invariant-loop-row
invariant-loop-row l = AreScanned l.work l.left l.chunk l.row-index l.some l.odd
