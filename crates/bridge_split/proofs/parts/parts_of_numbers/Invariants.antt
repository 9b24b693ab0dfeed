use Rattle.std.proofs.Common.{◌≡◌}
use Rattle.bridge_split.specs.PartNumbers.{numbered_parts}
use Rattle.bridge_split.proofs.parts.parts_of_numbers.Given as goal

abbrev pub invariant-loop-number : goal.invariant-loop-number
invariant-loop-number l = l.parts ≡ numbered_parts l.part l.rows l.number
