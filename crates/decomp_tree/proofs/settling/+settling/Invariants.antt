use Rattle.std.proofs.Common.{◌≡◌, ◌+◌, ◌*◌, ◌++◌, length, map}
use Rattle.std.specs.Vec.Iter.{into_iter_items, into_iter_len}
use Rattle.tree_type.specs.DecompositionTrees.{tree_of}
use Rattle.tree_type.specs.Invariant.{size_of}
use Rattle.decomp_tree.specs.Sketches.{lines_of_sketch, sketch_of}
use Rattle.decomp_tree.proofs.Settled.{AreSettled}
use Rattle.decomp_tree.proofs.settling.+settling.Given as goal

abbrev pub decreases-draw_root : goal.decreases-draw_root
decreases-draw_root g l = 4 * (l.pivots + size_of l.lines.now) + 3

abbrev pub decreases-settle : goal.decreases-settle
decreases-settle g l = 4 * (l.pivots + size_of (lines_of_sketch (sketch_of l.drawn))) + 2

abbrev pub decreases-find : goal.decreases-find
decreases-find g l = 4 * (l.pivots + size_of l.lines.now)

-- the children so far are settled
abbrev pub invariant-settle-loop-child : goal.invariant-settle-loop-child
invariant-settle-loop-child g l = (l.yielded ++ into_iter_items l.child-iterator ≡ into_iter_items l.initial.child-iterator)
    × (into_iter_len l.child-iterator ≡ length (into_iter_items l.child-iterator))
    × AreSettled l.limits.lines l.pivots l.state l.matrix (map (λ draft. lines_of_sketch (sketch_of draft)) l.yielded) (map tree_of l.children.items)
