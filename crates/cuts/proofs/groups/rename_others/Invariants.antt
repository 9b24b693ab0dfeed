use Rattle.std.proofs.Common.{◌≡◌, ◌<◌, ◌≤◌, ◌+◌, ℕ, cond, length, slice_index_or}
use Rattle.cmr_base.specs.ColumnSets.{has_column}
use Rattle.cuts.proofs.groups.rename_others.Given as goal

abbrev pub invariant-loop-line : goal.invariant-loop-line
invariant-loop-line l = record {
  size : length l.names.items ≡ length l.fn.names.items;
  done : (x : ℕ) → x < l.line → slice_index_or l.names.items (l.from + x) 0 ≡ cond (has_column l.kept.words x) (slice_index_or l.fn.names.items (l.from + x) 0) l.name;
  before : (k : ℕ) → k < l.from → slice_index_or l.names.items k 0 ≡ slice_index_or l.fn.names.items k 0;
  after : (k : ℕ) → l.from + l.line ≤ k → slice_index_or l.names.items k 0 ≡ slice_index_or l.fn.names.items k 0;
}
