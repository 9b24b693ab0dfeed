use Rattle.std.proofs.Common.{◌≡◌, map, take, pos, slice_index_or}
use Rattle.ghouila.proofs.row_signs.RowSigns.of_rows.Given as goal

abbrev pub invariant-loop-row : goal.invariant-loop-row
invariant-loop-row l = l.list ≡ map (λ row. slice_index_or l.self.signs.items row (pos 0)) (take l.row-index l.rows)
