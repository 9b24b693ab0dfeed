-- Nodes from which reducible lines were removed.
use Rattle.std.proofs.Common.{List, [], ◌∷◌, false}
use Rattle.cmr_base.specs.declared.line.Line.{Line}
use Rattle.cmr_base.specs.declared.line_set.LineSet.{LineSet}
use Rattle.cmr_base.specs.Matrix.{Matrix, entry, IsMatrix}
use Rattle.cmr_base.specs.Reductions.{rows_without, columns_without}
use Rattle.ghouila.proofs.ViolatedLines.{free_from_submatrix, submatrix_from_free}
use Rattle.ghouila.proofs.RemovedLines.{reductions_keep_violators}
use Rattle.tree_type.specs.Places.{lines_left}
use Rattle.tree_type.specs.Soundness.{AreReductions}
use Rattle.tree_laws.proofs.FreeSets.{IsFreeOn}

pub free_reduced : (m : Matrix) → IsMatrix m → (lines : LineSet) (steps : List Line) → AreReductions (entry m) lines.rows lines.columns steps → IsFreeOn m (lines_left lines steps) → IsFreeOn m lines
free_reduced m is lines [] h free = free
free_reduced m is lines (line ∷ steps) h free =
    let fewer : LineSet = record { rows = rows_without lines.rows line; columns = columns_without lines.columns line } in
    free_from_submatrix m lines.rows lines.columns
    ((reductions_keep_violators m lines.rows lines.columns line false is.small h.1).1 (submatrix_from_free m fewer.rows fewer.columns (free_reduced m is fewer steps h.2 free)))
