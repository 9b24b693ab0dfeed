use Rattle.std.proofs.Common.{◌≡◌, ◌++◌, map, take}
use Rattle.cmr_base.specs.declared.line.Line.TheVariants.{Column}
use Rattle.open_parts.proofs.rests.push_columns.Given as goal

abbrev pub invariant-loop-column : goal.invariant-loop-column
invariant-loop-column l = l.turns ≡ l.fn.turns ++ map Column (take l.column-index l.columns)
