use Rattle.std.proofs.Common.{◌≡◌, map, take}
use Rattle.decomp_tree.specs.Shapes.{set_in}
use Rattle.decomp_tree.proofs.naming.named_parts.Given as goal

abbrev pub invariant-loop-part : goal.invariant-loop-part
invariant-loop-part l = l.named ≡ map (set_in l.lines) (take l.part-index l.parts)
