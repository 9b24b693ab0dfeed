use Rattle.std.proofs.Common.{◌≡◌, ◌<◌, ◌≤◌, ◌+◌, ◌-◌, ℕ, slice_index}
use Rattle.cmr_base.proofs.runs.run_size.Given as goal

-- `size` columns are consecutive
abbrev pub invariant-loop-size : goal.invariant-loop-size
invariant-loop-size l = record {
  some : 1 ≤ l.size;
  inside : l.size ≤ l.room;
  follows : (k : ℕ) → k < l.size → slice_index l.columns (l.place + k) ≡ l.first + k;
}

abbrev pub decreases-loop-size : goal.decreases-loop-size
decreases-loop-size l = l.room - l.size
