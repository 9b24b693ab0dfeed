use Rattle.block_ranks.specs.Links.{HaveLabelsUpTo}
use Rattle.block_ranks.proofs.places.place_in_row.Given as goal

abbrev pub invariant-loop-column : goal.invariant-loop-column
invariant-loop-column l = HaveLabelsUpTo l.matrix l.row l.column l.labels.items
