use Rattle.std.proofs.Common.{◌≡◌, take}
use Rattle.ghouila.specs.Found.{marked}
use Rattle.ghouila.proofs.marked_lines.marked_places.Given as goal

abbrev pub invariant-loop-place : goal.invariant-loop-place
invariant-loop-place l = l.places ≡ marked (take l.place l.marks)
