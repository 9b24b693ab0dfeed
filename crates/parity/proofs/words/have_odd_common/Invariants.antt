use Rattle.std.proofs.Common.{◌≡◌, ◌<◌, ◌+◌, ◌%◌, drop}
use Rattle.std.specs.Prelude.{bit_and, count_ones}
use Rattle.parity.specs.Equations.{number_of, common}
use Rattle.parity.proofs.words.have_odd_common.Given as goal

-- the parity so far and the parity of the remaining words give the parity of all words
abbrev pub invariant-loop-place : goal.invariant-loop-place
invariant-loop-place l = record {
  bit : l.odd < 2;
  rest : (l.odd + count_ones (bit_and (number_of (drop l.place l.left)) (number_of (drop l.place l.right)))) % 2 ≡ common (number_of l.left) (number_of l.right);
}
