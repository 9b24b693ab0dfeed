use Rattle.std.proofs.Common.{◌≡◌, take}
use Rattle.tree_type.specs.Sides.{inside_with}
use Rattle.tree_type.proofs.child_lines.inside_with.Given as goal

abbrev pub invariant-loop-line : goal.invariant-loop-line
invariant-loop-line l = l.inside ≡ inside_with l.set l.more (take l.line-index l.lines)
