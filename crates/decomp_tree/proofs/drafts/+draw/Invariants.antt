use Rattle.std.proofs.Common.{◌+◌, length, map, take}
use Rattle.decomp_tree.specs.Sketches.{sketches_from, sketch_of, AreDrafted}
use Rattle.decomp_tree.proofs.drafts.+draw.Given as goal

abbrev pub decreases-draw : goal.decreases-draw
decreases-draw g l = length l.lines.now.rows + length l.lines.now.columns

-- the children so far are drawn
abbrev pub invariant-loop-child : goal.invariant-loop-child
invariant-loop-child g l = AreDrafted l.limits.lines l.matrix (take l.child-index l.child-items) (sketches_from (map sketch_of l.children.items))
