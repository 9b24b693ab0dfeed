use Rattle.std.proofs.Common.{◌≡◌, ◌<◌, ◌≤◌, ℕ, length, cond, nat_eq, slice_index}
use Rattle.cmr_base.proofs.labels.join_labels.Given as goal

abbrev pub invariant-loop-place : goal.invariant-loop-place
invariant-loop-place l = (length l.labels.items ≡ length l.initial.labels.items)
    × ((k : ℕ) → k < l.place → slice_index l.labels.items k ≡ cond (nat_eq (slice_index l.initial.labels.items k) l.replaced) l.kept (slice_index l.initial.labels.items k))
    × ((k : ℕ) → l.place ≤ k → slice_index l.labels.items k ≡ slice_index l.initial.labels.items k)
