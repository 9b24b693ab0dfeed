use Rattle.std.proofs.Common.{◌≡◌, ◌++◌, ◌+◌, drop}
use Rattle.generate.specs.Generated.{arcs_to}
use Rattle.generate.proofs.networks.arcs_from.Given as goal

-- the arcs so far, followed by the arcs of the other nodes, are all arcs
abbrev pub invariant-loop-place : goal.invariant-loop-place
invariant-loop-place l = l.arcs ++ arcs_to (l.place + 1) (drop l.place l.tails) ≡ arcs_to 1 l.tails
