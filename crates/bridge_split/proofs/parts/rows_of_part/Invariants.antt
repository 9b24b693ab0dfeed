use Rattle.std.proofs.Common.{◌≡◌, take}
use Rattle.bridge_split.specs.PartNumbers.{numbered_rows}
use Rattle.bridge_split.proofs.parts.rows_of_part.Given as goal

abbrev pub invariant-loop-row : goal.invariant-loop-row
invariant-loop-row l = l.of_part ≡ numbered_rows l.part (take l.row-index l.rows) l.number
