use Rattle.std.proofs.Common.{◌<◌, take}
use Rattle.std.specs.List.{AllByRecursion}
use Rattle.tree_type.specs.Invariant.{size_of}
use Rattle.cert_check.specs.NodeLines.{line_sets}
use Rattle.cert_check.proofs.apart_rule.are_filled.Given as goal

abbrev pub invariant-loop-child : goal.invariant-loop-child
invariant-loop-child l = AllByRecursion (λ child. 0 < size_of child) (line_sets (take l.child-index l.children))
