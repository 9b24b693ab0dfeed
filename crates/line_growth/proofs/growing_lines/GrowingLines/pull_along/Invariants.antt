use Rattle.std.proofs.Common.{◌≡◌, ◌<◌, ◌≤◌, ◌-◌, ℕ, true, false}
use Rattle.cmr_base.specs.Matrix.{entry}
use Rattle.cmr_base.specs.Trees.{support}
use Rattle.line_growth.specs.GrowingLines.{HasGrown, is_inside}
use Rattle.line_growth.specs.Rules.{sum_at}
use Rattle.line_growth.proofs.growing_lines.GrowingLines.pull_along.Given as goal

abbrev pub invariant-loop-line : goal.invariant-loop-line
invariant-loop-line l = record {
  grown : HasGrown (λ line. ¬ (entry l.matrix l.row line ≡ sum_at l.matrix l.sum line)) l.initial.self l.self;
  done : (line : ℕ) → line < l.from → support l.matrix l.along line ≡ true → is_inside l.self line ≡ false → entry l.matrix l.row line ≡ sum_at l.matrix l.sum line;
  few : l.from ≤ 1000;
}

abbrev pub decreases-loop-line : goal.decreases-loop-line
decreases-loop-line l = 1000 - l.from
