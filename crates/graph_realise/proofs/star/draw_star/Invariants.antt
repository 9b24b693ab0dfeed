use Rattle.std.proofs.Common.{◌≡◌}
use Rattle.cmr_base.specs.Trees.{support}
use Rattle.graph_realise.specs.SideTables.{AreTablesOf, AreRedrawn}
use Rattle.graph_realise.specs.Rays.{AreSeen, IsRay}
use Rattle.cmr_base.specs.ColumnSets.{has_column}
use Rattle.graph_realise.proofs.star.draw_star.Given as goal

abbrev pub invariant-loop-row : goal.invariant-loop-row
invariant-loop-row l = record {
  tables : AreTablesOf l.matrix l.sides;
  size : l.seen.size ≡ l.matrix.width;
  seen : AreSeen (support l.matrix) l.rows l.row-index (has_column l.seen.words);
  drawn : AreRedrawn (IsRay (support l.matrix) l.rows) l.row-items l.row-index l.initial.sides l.sides;
}
