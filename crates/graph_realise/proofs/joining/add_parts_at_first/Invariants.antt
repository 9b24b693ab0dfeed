use Rattle.graph_realise.specs.Joints.{AreChosen, is_at_first}
use Rattle.graph_realise.specs.SideTables.{AreTablesOf}
use Rattle.graph_realise.proofs.joining.add_parts_at_first.Given as goal

abbrev pub invariant-loop-part : goal.invariant-loop-part
invariant-loop-part l = record {
  tables : AreTablesOf l.matrix l.sides;
  chosen : AreChosen l.joint (is_at_first l.joint) l.joint.row l.part l.initial.sides l.sides;
}
