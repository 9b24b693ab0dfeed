use Rattle.std.proofs.Common.{◌≡◌, take}
use Rattle.cmr_base.specs.declared.line.Line.TheVariants.{Column}
use Rattle.sum_ops.specs.Children.{chosen}
use Rattle.sum_ops.proofs.children.child_columns.Given as goal

-- the lines so far
abbrev pub invariant-loop-column : goal.invariant-loop-column
invariant-loop-column l = l.child ≡ chosen Column l.inside l.side l.more (take l.column-index l.columns)
