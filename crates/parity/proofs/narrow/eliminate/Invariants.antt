use Rattle.std.proofs.Common.{◌≡◌, length}
use Rattle.parity.specs.Equations.{AreReduced}
use Rattle.parity.proofs.narrow.eliminate.Given as goal

abbrev pub invariant-loop-place : goal.invariant-loop-place
invariant-loop-place l = record {
  len : length l.words ≡ length l.initial.words;
  so_far : AreReduced l.place l.initial.words l.words;
}
