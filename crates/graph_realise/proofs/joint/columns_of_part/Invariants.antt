use Rattle.std.proofs.Common.{◌≡◌}
use Rattle.cmr_base.specs.ColumnSets.{has_column}
use Rattle.cmr_base.specs.Trees.{support}
use Rattle.graph_realise.specs.Joints.{AreColumnsOf}
use Rattle.graph_realise.proofs.joint.columns_of_part.Given as goal

abbrev pub invariant-loop-row : goal.invariant-loop-row
invariant-loop-row l = record {
  size : l.columns.size ≡ l.matrix.width;
  columns : AreColumnsOf (support l.matrix) l.part l.row-index (has_column l.columns.words);
}
