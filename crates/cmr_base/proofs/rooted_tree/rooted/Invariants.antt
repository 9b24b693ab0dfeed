use Rattle.cmr_base.proofs.RootedTreeSteps.{IsWalked}
use Rattle.cmr_base.proofs.rooted_tree.rooted.Given as goal

abbrev pub invariant-loop-place : goal.invariant-loop-place
invariant-loop-place l = IsWalked l.arcs l.place l.tree.links.items l.tree.places.items
