use Rattle.std.proofs.Common.{◌≡◌, map, take}
use Rattle.bridge_split.specs.Cutting.{rows_at_part}
use Rattle.bridge_split.proofs.sides.parts_at_places.Given as goal

abbrev pub invariant-loop-place : goal.invariant-loop-place
invariant-loop-place l = l.chosen ≡ map (rows_at_part l.parts) (take l.place-index l.places)
