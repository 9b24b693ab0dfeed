use Rattle.std.proofs.Common.{◌≤◌, ℕ, ℤ, length, drop}
use Rattle.cmr_base.specs.Matrix.{Matrix}
use Rattle.line_growth.specs.GrowingSets.{HasSameSizes, IsGrowing}
use Rattle.line_growth.proofs.growing_set.GrowingSet.start.Given as goal

-- the set contains the lines from a position on
abbrev pub invariant-lines : goal.invariant-lines
invariant-lines l = record {
  inside : l.from ≤ length l.lines;
  size : HasSameSizes l.fn.self l.self;
  growing : (m : Matrix) (upper lower : ℕ → ℕ → ℤ) → IsGrowing m upper lower (drop l.from l.lines) l.self;
}

abbrev pub decreases-lines : goal.decreases-lines
decreases-lines l = l.from
