use Rattle.std.proofs.Common.{◌≡◌, ◌++◌, map, take}
use Rattle.cmr_base.specs.declared.line.Line.TheVariants.{Row}
use Rattle.open_parts.proofs.rests.push_rows.Given as goal

abbrev pub invariant-loop-row : goal.invariant-loop-row
invariant-loop-row l = l.turns ≡ l.fn.turns ++ map Row (take l.row-index l.rows)
