use Rattle.std.proofs.Common.{◌≡◌, ℕ, length}
use Rattle.cmr_base.specs.Trees.{support}
use Rattle.graph_realise.specs.Joints.{IsPartNumber, number_at}
use Rattle.graph_realise.proofs.joint.parts_with_columns.Given as goal

abbrev pub invariant-loop-place : goal.invariant-loop-place
invariant-loop-place l = record {
  columns_fit : l.columns.size ≡ l.matrix.width;
  size : length l.numbers.items ≡ l.matrix.width;
  named : (column : ℕ) → IsPartNumber (support l.matrix) l.row l.parts l.place column (number_at l.numbers.items column);
}
