use Rattle.balance.specs.CandidateColumns.{AreKeptBelow}
use Rattle.balance.proofs.kept.kept_columns.Given as goal

abbrev pub invariant-loop-column : goal.invariant-loop-column
invariant-loop-column l = AreKeptBelow l.matrix l.rows l.column l.kept
