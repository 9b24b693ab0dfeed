use Rattle.std.proofs.Common.{◌≡◌, ◌≢◌, ◌<◌, ℕ, Some, length}
use Rattle.std.specs.Prelude.{slice_index}
use Rattle.graph_realise.specs.Joints.{number_at}
use Rattle.graph_realise.proofs.joint.number_rows.Given as goal

abbrev pub invariant-loop-row : goal.invariant-loop-row
invariant-loop-row l = record {
  size : length l.numbers.items ≡ length l.initial.numbers.items;
  inside : (k : ℕ) → k < l.row-index → number_at l.numbers.items (slice_index l.row-items k) ≡ Some l.number;
  outside : (row : ℕ) → ((k : ℕ) → k < l.row-index → slice_index l.row-items k ≢ row) → number_at l.numbers.items row ≡ number_at l.initial.numbers.items row;
}
