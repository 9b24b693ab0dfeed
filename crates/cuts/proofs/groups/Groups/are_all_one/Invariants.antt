use Rattle.std.proofs.Common.{◌≡◌, ◌<◌, ℕ, slice_index_or}
use Rattle.cuts.proofs.groups.Groups.are_all_one.Given as goal

abbrev pub invariant-loop-line : goal.invariant-loop-line
invariant-loop-line l = (k : ℕ) → k < l.line → slice_index_or l.self.names.items k 0 ≡ slice_index_or l.self.names.items 0 0
