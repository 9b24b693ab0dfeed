use Rattle.std.proofs.Common.{◌≡◌, ◌<◌, ◌≤◌, ◌-◌, ℕ, true, false, length, slice_index_or}
use Rattle.std.specs.Int.Bits.{bit_xor}
use Rattle.cmr_base.specs.ColumnSets.{has_column}
use Rattle.cuts.proofs.numbered_set.add_weight.Given as goal

abbrev pub invariant-loop-line : goal.invariant-loop-line
invariant-loop-line l = record {
  size : length l.numbers.items ≡ length l.initial.numbers.items;
  changed : (x : ℕ) → x < l.from → has_column l.lines x ≡ true → slice_index_or l.numbers.items x 0 ≡ bit_xor (slice_index_or l.initial.numbers.items x 0) l.weight;
  same : (x : ℕ) → x < l.from → has_column l.lines x ≡ false → slice_index_or l.numbers.items x 0 ≡ slice_index_or l.initial.numbers.items x 0;
  later : (x : ℕ) → l.from ≤ x → slice_index_or l.numbers.items x 0 ≡ slice_index_or l.initial.numbers.items x 0;
  high : l.from ≤ 1024;
}

abbrev pub decreases-loop-line : goal.decreases-loop-line
decreases-loop-line l = 1025 - l.from
