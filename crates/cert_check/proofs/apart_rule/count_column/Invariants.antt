use Rattle.std.proofs.Common.{◌≡◌, take}
use Rattle.std.specs.Prelude.{count_by}
use Rattle.tree_type.specs.Sides.{is_among}
use Rattle.cert_check.specs.NodeLines.{line_sets}
use Rattle.cert_check.proofs.apart_rule.count_column.Given as goal

abbrev pub invariant-loop-child : goal.invariant-loop-child
invariant-loop-child l = l.count ≡ count_by (λ child. is_among child.columns l.column) (line_sets (take l.child-index l.children))
