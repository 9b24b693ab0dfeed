use Rattle.std.proofs.Common.{◌≡◌}
use Rattle.cmr_base.proofs.ListedWords.{AreListed}
use Rattle.cmr_base.proofs.bit_set.BitSet.of.Given as goal

abbrev pub invariant-loop-number : goal.invariant-loop-number
invariant-loop-number l = (l.set.size ≡ l.size) × AreListed l.numbers l.set.words l.number-index
