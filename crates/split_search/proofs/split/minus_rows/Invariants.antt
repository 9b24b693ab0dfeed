use Rattle.std.proofs.Common.{◌≡◌, map, take}
use Rattle.split_search.specs.Paths.{minus_of_node}
use Rattle.split_search.proofs.split.minus_rows.Given as goal

abbrev pub invariant-loop-node : goal.invariant-loop-node
invariant-loop-node l = l.minus.items ≡ map minus_of_node (take l.node-index l.nodes)
