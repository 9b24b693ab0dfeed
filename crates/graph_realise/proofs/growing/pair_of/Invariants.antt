use Rattle.std.proofs.Common.{◌≡◌, drop}
use Rattle.cmr_base.specs.GrownTrees.{grown, pair_of}
use Rattle.graph_realise.specs.Growing.{is_beyond}
use Rattle.graph_realise.proofs.growing.pair_of.Given as goal

abbrev pub invariant-loop-place : goal.invariant-loop-place
invariant-loop-place l = pair_of (grown (is_beyond l.sides) (drop l.place l.order)) l.row ≡ pair_of (grown (is_beyond l.sides) l.order) l.row
