use Rattle.std.proofs.Common.{◌≡◌, take}
use Rattle.std.specs.List.{AllByRecursion}
use Rattle.cmr_base.specs.Matrix.{entry, is_nonzero}
use Rattle.balance.proofs.kept.join_same_rows.Given as goal

abbrev pub invariant-loop-row : goal.invariant-loop-row
invariant-loop-row l = AllByRecursion (λ row. is_nonzero (entry l.matrix row l.first) ≡ is_nonzero (entry l.matrix row l.second)) (take l.row-index l.rows)
