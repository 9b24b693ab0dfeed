use Rattle.std.proofs.Common.{◌≡◌, drop}
use Rattle.graph_text.specs.GraphReading.{all_within}
use Rattle.graph_text.proofs.read.all_within.Given as goal

-- the answer for the remaining edges is the whole answer
abbrev pub invariant-loop-edge : goal.invariant-loop-edge
invariant-loop-edge l = all_within l.last (drop l.edge-index l.edges) ≡ all_within l.last l.edges
