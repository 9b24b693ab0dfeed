use Rattle.std.proofs.Common.{◌≡◌, ◌%◌, map, take}
use Rattle.bridge_split.proofs.sides.sides_by_depth.Given as goal

abbrev pub invariant-loop-depth : goal.invariant-loop-depth
invariant-loop-depth l = l.sides ≡ map (λ depth. depth % 2) (take l.depth-index l.depths)
