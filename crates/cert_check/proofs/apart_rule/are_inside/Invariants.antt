use Rattle.std.proofs.Common.{◌≡◌, ◌≢◌, true, pos, take}
use Rattle.std.specs.List.{AllByRecursion}
use Rattle.cmr_base.specs.Matrix.{entry}
use Rattle.tree_type.specs.Sides.{is_among}
use Rattle.cert_check.proofs.apart_rule.are_inside.Given as goal

abbrev pub invariant-loop-column : goal.invariant-loop-column
invariant-loop-column l = AllByRecursion (λ column. entry l.matrix l.row column ≢ pos 0 → is_among l.inside column ≡ true) (take l.column-index l.columns)
