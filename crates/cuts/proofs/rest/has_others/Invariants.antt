use Rattle.std.proofs.Common.{◌≡◌, ◌<◌, ℕ, true, false}
use Rattle.cmr_base.specs.ColumnSets.{has_column}
use Rattle.cuts.proofs.rest.has_others.Given as goal

abbrev pub invariant-loop-row : goal.invariant-loop-row
invariant-loop-row l = (x : ℕ) → x < l.row → has_column l.own.words x ≡ false → has_column l.set.words x ≡ true
