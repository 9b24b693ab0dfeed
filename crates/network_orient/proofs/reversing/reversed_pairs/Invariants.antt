use Rattle.std.proofs.Common.{◌≡◌, take}
use Rattle.cmr_base.specs.ReversedNetworks.{reversed_pairs}
use Rattle.network_orient.proofs.reversing.reversed_pairs.Given as goal

abbrev pub invariant-loop-index : goal.invariant-loop-index
invariant-loop-index l = l.reversed ≡ reversed_pairs (take l.index l.pairs) (take l.index l.signs)
