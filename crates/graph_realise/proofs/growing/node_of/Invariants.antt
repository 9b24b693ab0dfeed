use Rattle.std.proofs.Common.{◌≡◌, drop}
use Rattle.cmr_base.specs.GrownTrees.{grown, node_of}
use Rattle.graph_realise.specs.Growing.{is_beyond, is_past}
use Rattle.graph_realise.proofs.growing.node_of.Given as goal

abbrev pub invariant-loop-place : goal.invariant-loop-place
invariant-loop-place l = node_of (grown (is_beyond l.sides) (drop l.place l.order)) (is_past l.sides l.spot) ≡ node_of (grown (is_beyond l.sides) l.order) (is_past l.sides l.spot)
