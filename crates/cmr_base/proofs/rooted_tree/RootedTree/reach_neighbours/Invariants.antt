use Rattle.cmr_base.proofs.IncidenceSteps.{bound}
use Rattle.cmr_base.proofs.RootedTreeSteps.{IsReaching}
use Rattle.cmr_base.proofs.rooted_tree.RootedTree.reach_neighbours.Given as goal

abbrev pub invariant-loop-next : goal.invariant-loop-next
invariant-loop-next l = IsReaching l.arcs l.end l.place l.fn.self.links.items l.self.links.items l.self.places.items l.next

abbrev pub decreases-loop-next : goal.decreases-loop-next
decreases-loop-next l = bound l.next
