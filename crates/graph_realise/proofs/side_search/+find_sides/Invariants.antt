use Rattle.std.proofs.Common.{◌<◌, ◌+◌, ◌*◌, ℕ, [], length}
use Rattle.std.specs.Prelude.{slice_index_or}
use Rattle.cmr_base.specs.Trees.{support}
use Rattle.cmr_base.specs.Members.{IsIn}
use Rattle.graph_realise.specs.Joints.{IsClearBeside}
use Rattle.graph_realise.specs.Merging.{KeepsCuts}
use Rattle.graph_realise.specs.SideTables.{AreTablesOf, KeepsOutside, side_in, end_in}
use Rattle.graph_realise.proofs.side_search.+find_sides.Given as goal

abbrev pub decreases-find_sides : goal.decreases-find_sides
decreases-find_sides l = 2 * length l.rows.now + 1

abbrev pub decreases-join_parts : goal.decreases-join_parts
decreases-join_parts l = 2 * length l.rows.now

abbrev pub invariant-join_parts-loop-place : goal.invariant-join_parts-loop-place
invariant-join_parts-loop-place l = record {
  tables : AreTablesOf l.matrix l.sides;
  kept : (a : ℕ) → a < l.place → KeepsCuts (support l.matrix) l.split.row (slice_index_or l.split.parts a []) (side_in l.sides) (end_in l.sides);
  clear : (a r : ℕ) → a < l.place → IsIn r (slice_index_or l.split.parts a []) → IsClearBeside (support l.matrix) l.joint l.sides r;
  others : KeepsOutside l.initial.sides l.sides l.rows;
}
