use Rattle.std.proofs.Common.{◌≡◌, ◌<◌, ◌*◌, ℕ, true}
use Rattle.line_growth.specs.GrowingLines.{is_inside}
use Rattle.line_growth.proofs.LineSteps.{IsMultipleAt}
use Rattle.line_growth.proofs.growing_lines.GrowingLines.has_unlike_word.Given as goal

abbrev pub invariant-loop-chunk : goal.invariant-loop-chunk
invariant-loop-chunk l = (x : ℕ) → x < 64 * l.chunk → is_inside l.self x ≡ true → IsMultipleAt l.matrix l.row l.multiple.factor l.multiple.model x
