use Rattle.std.proofs.Common.{◌≡◌, ◌≢◌, ◌&&◌, true, pos, take}
use Rattle.std.specs.List.{AllByRecursion, list_any}
use Rattle.cmr_base.specs.Matrix.{entry}
use Rattle.tree_type.specs.Sides.{is_among}
use Rattle.cert_check.specs.NodeLines.{line_sets}
use Rattle.cert_check.proofs.apart_rule.have_nonzeros.Given as goal

abbrev pub invariant-loop-row : goal.invariant-loop-row
invariant-loop-row l = AllByRecursion (λ row. AllByRecursion (λ column. entry l.matrix row column ≢ pos 0 → list_any (λ child. is_among child.rows row && is_among child.columns column) (line_sets l.children) ≡ true) l.columns) (take l.row-index l.rows)
