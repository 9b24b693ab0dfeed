use Rattle.cmr_base.specs.Trees.{support}
use Rattle.graph_realise.specs.Joints.{AreColumnsOfParts}
use Rattle.graph_realise.proofs.joint.columns_of_parts.Given as goal

abbrev pub invariant-loop-place : goal.invariant-loop-place
invariant-loop-place l = AreColumnsOfParts (support l.matrix) l.matrix.width l.parts l.place l.sets.items
