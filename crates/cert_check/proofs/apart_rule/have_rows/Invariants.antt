use Rattle.std.proofs.Common.{◌≡◌, take}
use Rattle.std.specs.Prelude.{count_by}
use Rattle.std.specs.List.{AllByRecursion}
use Rattle.tree_type.specs.Sides.{is_among}
use Rattle.cert_check.specs.NodeLines.{line_sets}
use Rattle.cert_check.proofs.apart_rule.have_rows.Given as goal

abbrev pub invariant-loop-row : goal.invariant-loop-row
invariant-loop-row l = AllByRecursion (λ row. count_by (λ child. is_among child.rows row) (line_sets l.children) ≡ 1) (take l.row-index l.rows)
