use Rattle.std.proofs.Common.{◌≡◌, take}
use Rattle.open_parts.proofs.copies.items_of.Given as goal

abbrev pub invariant-loop-item : goal.invariant-loop-item
invariant-loop-item g l = l.copy ≡ take l.item-index l.items
