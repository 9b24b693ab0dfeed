use Rattle.decomp_tree.proofs.decomposing.+shallow_root.Given as goal

abbrev pub decreases-shallow_root : goal.decreases-shallow_root
decreases-shallow_root g l = l.pivots
