use Rattle.std.proofs.Common.{◌≡◌, map, take}
use Rattle.graph_text.specs.GraphReading.{ends}
use Rattle.graph_text.proofs.read.pairs_of.Given as goal

abbrev pub invariant-loop-edge : goal.invariant-loop-edge
invariant-loop-edge l = l.pairs ≡ map ends (take l.edge-index l.edges)
