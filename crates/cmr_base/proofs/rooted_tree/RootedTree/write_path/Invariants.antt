use Rattle.std.proofs.Common.{◌+◌}
use Rattle.cmr_base.proofs.TreeClimbing.{IsClimbing}
use Rattle.cmr_base.proofs.rooted_tree.RootedTree.write_path.Given as goal

abbrev pub invariant-loop-first : goal.invariant-loop-first
invariant-loop-first l = IsClimbing l.arcs l.self.links.items l.fn.walk.tail l.fn.walk.head l.first l.last l.directions

abbrev pub decreases-loop-first : goal.decreases-loop-first
decreases-loop-first l = l.first + l.last
