use Rattle.bridge_split.specs.Counting.{HaveNoThird}
use Rattle.bridge_split.proofs.stars.has_column_with_three.Given as goal

abbrev pub invariant-loop-row : goal.invariant-loop-row
invariant-loop-row l = HaveNoThird l.matrix l.rows l.row-index l.once l.twice
