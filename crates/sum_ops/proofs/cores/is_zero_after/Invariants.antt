use Rattle.std.proofs.Common.{◌≡◌, ◌<◌, ◌≤◌, ℕ, pos}
use Rattle.cmr_base.specs.Matrix.{entry}
use Rattle.sum_ops.proofs.cores.is_zero_after.Given as goal

-- the entries so far are 0
abbrev pub invariant-loop-after : goal.invariant-loop-after
invariant-loop-after l = (after : ℕ) → l.column ≤ after → after < l.after → entry l.matrix 0 after ≡ pos 0
