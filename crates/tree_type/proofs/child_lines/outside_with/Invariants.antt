use Rattle.std.proofs.Common.{◌≡◌, take}
use Rattle.tree_type.specs.Sides.{outside_with}
use Rattle.tree_type.proofs.child_lines.outside_with.Given as goal

abbrev pub invariant-loop-line : goal.invariant-loop-line
invariant-loop-line l = l.outside ≡ outside_with l.set l.more (take l.line-index l.lines)
