use Rattle.std.proofs.Common.{◌≡◌, ◌++◌, map, take}
use Rattle.cmr_base.specs.Matrix.{entry}
use Rattle.compose.specs.Arrangements.{signed_entry}
use Rattle.compose.proofs.signed_line.push_row.Given as goal

-- the entries so far
abbrev pub invariant-loop-column : goal.invariant-loop-column
invariant-loop-column l = l.cells.items ≡ l.initial.cells.items ++ map (signed_entry (entry l.matrix) l.row) (take l.column-index l.columns)
