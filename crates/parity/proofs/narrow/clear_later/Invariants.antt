use Rattle.std.proofs.Common.{◌≡◌, ◌<◌, ◌≤◌, ℕ, length, get_or}
use Rattle.parity.specs.Equations.{cleared_by}
use Rattle.parity.proofs.narrow.clear_later.Given as goal

abbrev pub invariant-loop-later : goal.invariant-loop-later
invariant-loop-later l = record {
  len : length l.words ≡ length l.initial.words;
  prefix : (at : ℕ) → at ≤ l.place → get_or l.words at 0 ≡ get_or l.initial.words at 0;
  done : (at : ℕ) → l.place < at → at < l.later → get_or l.words at 0 ≡ cleared_by (record { pivot = l.pivot; columns = l.columns }) (get_or l.initial.words at 0);
  rest : (at : ℕ) → l.later ≤ at → get_or l.words at 0 ≡ get_or l.initial.words at 0;
}
