use Rattle.std.proofs.Common.{◌≡◌}
use Rattle.cmr_base.specs.Trees.{support}
use Rattle.graph_realise.specs.Branches.{AreBranches}
use Rattle.graph_realise.proofs.branches.branches_at.Given as goal

abbrev pub invariant-loop-place : goal.invariant-loop-place
invariant-loop-place l = record {
  size : l.common.size ≡ l.matrix.width;
  branches : AreBranches (support l.matrix) l.matrix.width l.row l.parts l.ends l.place l.branches.items;
}
