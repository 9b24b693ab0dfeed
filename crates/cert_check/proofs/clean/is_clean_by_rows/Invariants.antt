use Rattle.std.proofs.Common.{◌≡◌}
use Rattle.cert_check.proofs.CleanSets.{NoneBefore}
use Rattle.cert_check.proofs.clean.is_clean_by_rows.Given as goal

-- no lesser row set has a column set
abbrev pub invariant-loop-number : goal.invariant-loop-number
invariant-loop-number l = record {
  same : l.search ≡ l.matrix;
  none_before : NoneBefore l.matrix l.number;
}
