use Rattle.bridge_split.specs.PartNumbers.{IsSearching}
use Rattle.bridge_split.proofs.splitting.first_splitting_row.Given as goal

abbrev pub invariant-loop-row : goal.invariant-loop-row
invariant-loop-row l = IsSearching l.matrix l.rows l.row-index l.walk
