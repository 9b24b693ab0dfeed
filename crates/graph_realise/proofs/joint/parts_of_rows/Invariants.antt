use Rattle.std.proofs.Common.{◌≡◌, length}
use Rattle.cmr_base.specs.Matrix.{height}
use Rattle.graph_realise.specs.Joints.{AreNumbered}
use Rattle.graph_realise.proofs.joint.parts_of_rows.Given as goal

abbrev pub invariant-loop-place : goal.invariant-loop-place
invariant-loop-place l = record {
  size : length l.numbers.items ≡ height l.matrix;
  numbered : AreNumbered l.parts l.place l.numbers.items;
}
