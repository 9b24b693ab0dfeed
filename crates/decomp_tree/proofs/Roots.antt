-- All lines of a matrix.
use Rattle.std.proofs.Common.{◌≡◌, get_or, sym, subst}
use Rattle.cmr_base.specs.declared.line_set.LineSet.{LineSet}
use Rattle.cmr_base.specs.Matrix.{Matrix, height, IsMatrix}
use Rattle.cmr_base.specs.LineSets.{IsRowSet, IsColumnSet, first_lines}
use Rattle.cmr_base.proofs.ListsWithout.{in-get_or}
use Rattle.cmr_base.proofs.RemovedLines.{first_lines_increase, first_lines_in}
use Rattle.tree_type.specs.Invariant.{AreLines}

module _ (m : Matrix) (is : IsMatrix m) (lines : LineSet) (rows : lines.rows ≡ first_lines (height m)) (columns : lines.columns ≡ first_lines m.width) where
  pub root_lines : AreLines m lines
  root_lines = record {
    rows = subst (IsRowSet m) (sym rows) (record { increasing = first_lines_increase (height m); in_range = λ k l. first_lines_in (height m) (get_or (first_lines (height m)) k 0) (in-get_or (first_lines (height m)) k l) });
    columns = subst (IsColumnSet m) (sym columns) (record { increasing = first_lines_increase m.width; in_range = λ k l. first_lines_in m.width (get_or (first_lines m.width) k 0) (in-get_or (first_lines m.width) k l) });
  }
