use Rattle.cmr_base.specs.Trees.{support}
use Rattle.graph_realise.specs.Joints.{IsArcJoined}
use Rattle.graph_realise.specs.SideTables.{AreTablesOf, AreRedrawn}
use Rattle.graph_realise.proofs.joining.join.Given as goal

abbrev pub invariant-loop-arc : goal.invariant-loop-arc
invariant-loop-arc l = record {
  tables : AreTablesOf l.matrix l.sides;
  joined : AreRedrawn (λ r new. IsArcJoined (support l.matrix) l.joint l.initial.sides new r) l.arc-items l.arc-index l.initial.sides l.sides;
}
