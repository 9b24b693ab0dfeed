use Rattle.std.proofs.Common.{◌≡◌, take}
use Rattle.cmr_base.specs.declared.line.Line.TheVariants.{Row}
use Rattle.sum_ops.specs.Children.{chosen}
use Rattle.sum_ops.proofs.children.child_rows.Given as goal

-- the lines so far
abbrev pub invariant-loop-row : goal.invariant-loop-row
invariant-loop-row l = l.child ≡ chosen Row l.inside l.side l.more (take l.row-index l.rows)
