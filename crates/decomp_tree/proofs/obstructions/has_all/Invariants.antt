use Rattle.std.proofs.Common.{◌≡◌, true, take}
use Rattle.std.specs.List.{AllByRecursion}
use Rattle.tree_type.specs.Sides.{is_among}
use Rattle.decomp_tree.proofs.obstructions.has_all.Given as goal

abbrev pub invariant-loop-line : goal.invariant-loop-line
invariant-loop-line l = AllByRecursion (λ line. is_among l.set line ≡ true) (take l.line-index l.lines)
