use Rattle.cmr_base.specs.Trees.{support}
use Rattle.graph_realise.specs.Joints.{AreHung}
use Rattle.graph_realise.specs.SideTables.{AreTablesOf}
use Rattle.graph_realise.proofs.joining.add_hung.Given as goal

abbrev pub invariant-loop-part : goal.invariant-loop-part
invariant-loop-part l = record {
  tables : AreTablesOf l.matrix l.sides;
  hung : AreHung (support l.matrix) l.joint l.arc l.own l.part l.initial.sides l.sides;
}
