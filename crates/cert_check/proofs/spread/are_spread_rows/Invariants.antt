use Rattle.std.proofs.Common.{◌≡◌, take}
use Rattle.std.specs.List.{AllByRecursion}
use Rattle.cmr_base.specs.Matrix.{entry}
use Rattle.cmr_base.specs.Separations.{spread_at}
use Rattle.cert_check.proofs.spread.are_spread_rows.Given as goal

abbrev pub invariant-loop-row : goal.invariant-loop-row
invariant-loop-row l = AllByRecursion (λ row. AllByRecursion (λ column. entry l.matrix row column ≡ spread_at (entry l.matrix) l.first l.second row column) l.columns) (take l.row-index l.rows)
