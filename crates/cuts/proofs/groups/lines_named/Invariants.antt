use Rattle.std.proofs.Common.{◌≡◌, ◌+◌, ℕ, true, slice_index_or}
use Rattle.cmr_base.specs.ColumnSets.{has_column}
use Rattle.cuts.proofs.groups.lines_named.Given as goal

abbrev pub invariant-loop-line : goal.invariant-loop-line
invariant-loop-line l = (l.lines.size ≡ l.count) × ((x : ℕ) → has_column l.lines.words x ≡ true → slice_index_or l.names (l.from + x) 0 ≡ l.name)
