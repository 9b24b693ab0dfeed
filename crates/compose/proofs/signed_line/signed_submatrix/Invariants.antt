use Rattle.std.proofs.Common.{◌≡◌, map, take}
use Rattle.std.specs.List.{flat_map}
use Rattle.cmr_base.specs.Matrix.{entry}
use Rattle.compose.specs.Arrangements.{signed_entry}
use Rattle.compose.proofs.signed_line.signed_submatrix.Given as goal

-- the rows so far
abbrev pub invariant-loop-row : goal.invariant-loop-row
invariant-loop-row l = l.cells.items ≡ flat_map (λ row. map (signed_entry (entry l.matrix) row) l.columns) (take l.row-index l.rows)
