-- The lines of the fault that a verdict names.
use Rattle.std.proofs.Common.{◌≡◌, subst}
use Rattle.cmr_base.specs.declared.line_set.LineSet.{LineSet}
use Rattle.cmr_base.specs.LineSets.{AllBelow}
use Rattle.cmr_base.specs.Matrix.{Matrix, height}
use Rattle.tree_laws.specs.Laws.{VerdictMeans}
use Rattle.tree_type.specs.Verdicts as verdicts
use Rattle.tree_type.specs.Verdicts.{Verdict}

-- the fault that a verdict names has lines of the matrix
pub fault_rows : (m : Matrix) (v : Verdict) (fault : LineSet) → v ≡ verdicts.No fault → VerdictMeans m v → AllBelow (height m) fault.rows
fault_rows m v fault e right = (subst (VerdictMeans m) e right).row_set.in_range

pub fault_columns : (m : Matrix) (v : Verdict) (fault : LineSet) → v ≡ verdicts.No fault → VerdictMeans m v → AllBelow m.width fault.columns
fault_columns m v fault e right = (subst (VerdictMeans m) e right).column_set.in_range
