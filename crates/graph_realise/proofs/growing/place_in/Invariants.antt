use Rattle.std.proofs.Common.{◌≡◌, ◌<◌, ◌≤◌, ℕ, false, length}
use Rattle.std.specs.Prelude.{slice_index}
use Rattle.graph_realise.specs.Growing.{is_beyond}
use Rattle.graph_realise.proofs.growing.place_in.Given as goal

abbrev pub invariant-places : goal.invariant-places
invariant-places l = record {
  within : l.place ≤ length l.order;
  after : (k : ℕ) → l.place ≤ k → k < length l.order → is_beyond l.sides l.arc (slice_index l.order k) ≡ false;
}

abbrev pub decreases-places : goal.decreases-places
decreases-places l = l.place
