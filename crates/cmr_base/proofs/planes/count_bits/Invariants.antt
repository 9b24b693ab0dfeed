use Rattle.std.proofs.Common.{◌≡◌, ◌≤◌, ◌*◌, take}
use Rattle.std.specs.Prelude.{count_ones}
use Rattle.std.specs.List.{sum_by}
use Rattle.cmr_base.proofs.planes.count_bits.Given as goal

-- the bits of the words so far
abbrev pub invariant-loop-word : goal.invariant-loop-word
invariant-loop-word l = record {
  so_far : l.count ≡ sum_by count_ones (take l.word-index l.words);
  few : l.count ≤ 64 * l.word-index;
}
