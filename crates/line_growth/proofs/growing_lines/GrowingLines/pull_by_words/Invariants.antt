use Rattle.std.proofs.Common.{◌≡◌, ◌<◌, ◌*◌, ℕ, false}
use Rattle.line_growth.specs.GrowingLines.{HasGrown, is_inside}
use Rattle.line_growth.proofs.LineSteps.{IsMultipleAt}
use Rattle.line_growth.proofs.growing_lines.GrowingLines.pull_by_words.Given as goal

abbrev pub invariant-loop-chunk : goal.invariant-loop-chunk
invariant-loop-chunk l = record {
  grown : HasGrown (λ x. ¬ (IsMultipleAt l.matrix l.row l.multiple.factor l.multiple.model x)) l.fn.self l.self;
  done : (x : ℕ) → x < 64 * l.chunk → is_inside l.self x ≡ false → IsMultipleAt l.matrix l.row l.multiple.factor l.multiple.model x;
}
