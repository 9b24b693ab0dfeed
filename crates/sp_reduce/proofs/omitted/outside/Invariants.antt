use Rattle.std.proofs.Common.{◌≡◌, take, filter}
use Rattle.minimal_sets.specs.LeftOut.{is_outside}
use Rattle.sp_reduce.proofs.omitted.outside.Given as goal

abbrev pub invariant-numbers : goal.invariant-numbers
invariant-numbers l = l.indices ≡ filter (is_outside l.before l.from l.count) (take l.number-index l.numbers)
