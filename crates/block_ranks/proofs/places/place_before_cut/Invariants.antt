use Rattle.block_ranks.specs.Links.{HaveLabelsUpTo}
use Rattle.block_ranks.proofs.places.place_before_cut.Given as goal

abbrev pub invariant-loop-row : goal.invariant-loop-row
invariant-loop-row l = HaveLabelsUpTo l.matrix l.row 0 l.labels.items
