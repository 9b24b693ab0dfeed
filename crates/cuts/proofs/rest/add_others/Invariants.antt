use Rattle.std.proofs.Common.{◌≡◌, ◌<◌, ℕ, true, false}
use Rattle.cmr_base.specs.ColumnSets.{has_column}
use Rattle.cuts.proofs.rest.add_others.Given as goal

abbrev pub invariant-loop-row : goal.invariant-loop-row
invariant-loop-row l = record {
  size : l.set.size ≡ l.fn.set.size;
  kept : (x : ℕ) → has_column l.fn.set.words x ≡ true → has_column l.set.words x ≡ true;
  rest : (x : ℕ) → x < l.row → has_column l.own.words x ≡ false → has_column l.set.words x ≡ true;
}
