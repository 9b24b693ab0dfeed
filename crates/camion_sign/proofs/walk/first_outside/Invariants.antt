use Rattle.std.proofs.Common.{◌≡◌, ◌<◌, ◌≤◌, ◌-◌, ℕ, false}
use Rattle.camion_sign.specs.Walks.{is_fresh}
use Rattle.camion_sign.proofs.walk.first_outside.Given as goal

-- no line so far
abbrev pub invariant-loop-line : goal.invariant-loop-line
invariant-loop-line l = record {
  low : l.from ≤ l.line;
  none : (x : ℕ) → l.from ≤ x → x < l.line → is_fresh l.lines l.others x ≡ false;
  high : l.line ≤ 1087;
}

abbrev pub decreases-loop-line : goal.decreases-loop-line
decreases-loop-line l = 1087 - l.line
