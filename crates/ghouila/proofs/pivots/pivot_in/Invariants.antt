use Rattle.ghouila.proofs.PivotSearch.{IsScanned}
use Rattle.ghouila.proofs.pivots.pivot_in.Given as goal

abbrev pub invariant-loop-place : goal.invariant-loop-place
invariant-loop-place l = IsScanned l.work l.left l.column l.place l.first l.odd
