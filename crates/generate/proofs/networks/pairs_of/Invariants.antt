use Rattle.std.proofs.Common.{◌≡◌, ◌++◌, ◌+◌, drop}
use Rattle.generate.specs.Generated.{pairs_of}
use Rattle.generate.proofs.networks.pairs_of.Given as goal

-- the walks so far, followed by the walks of the other nodes, are all walks
abbrev pub invariant-loop-walk : goal.invariant-loop-walk
invariant-loop-walk l = l.walks ++ pairs_of (drop (l.walk + l.walk) l.nodes) ≡ pairs_of l.nodes
