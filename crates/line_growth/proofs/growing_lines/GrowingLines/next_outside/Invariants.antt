use Rattle.std.proofs.Common.{◌≡◌, ◌<◌, ◌≤◌, ◌-◌, ℕ, true}
use Rattle.line_growth.specs.GrowingLines.{is_inside}
use Rattle.line_growth.proofs.growing_lines.GrowingLines.next_outside.Given as goal

abbrev pub invariant-loop-line : goal.invariant-loop-line
invariant-loop-line l = record {
  low : l.from ≤ l.line;
  between : (x : ℕ) → l.from ≤ x → x < l.line → x < l.self.inside.size → is_inside l.self x ≡ true;
}

abbrev pub decreases-loop-line : goal.decreases-loop-line
decreases-loop-line l = l.self.inside.size - l.line
