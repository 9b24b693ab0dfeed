use Rattle.std.proofs.Common.{◌≡◌, take, filter}
use Rattle.minimal_sets.specs.LeftOut.{is_outside}
use Rattle.minimal_sets.proofs.greedy.outside.Given as goal

abbrev pub invariant-loop-number : goal.invariant-loop-number
invariant-loop-number l = l.indices ≡ filter (is_outside l.before l.from l.count) (take l.number-index l.numbers)
