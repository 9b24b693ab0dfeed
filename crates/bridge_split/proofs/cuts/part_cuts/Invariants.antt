use Rattle.std.proofs.Common.{◌<◌, ℕ, get_or}
use Rattle.cmr_base.specs.Trees.{support}
use Rattle.cmr_base.specs.ColumnSets.{has_column}
use Rattle.bridge_split.specs.Cutting.{IsUncutIn}
use Rattle.bridge_split.proofs.cuts.part_cuts.Given as goal

abbrev pub invariant-loop-row : goal.invariant-loop-row
invariant-loop-row l = (k : ℕ) → k < l.row-index → IsUncutIn (support l.matrix) (has_column l.columns.words) (get_or l.part k 0)
