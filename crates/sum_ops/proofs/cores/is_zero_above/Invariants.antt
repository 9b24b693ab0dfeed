use Rattle.std.proofs.Common.{◌≡◌, ◌<◌, ℕ, pos}
use Rattle.cmr_base.specs.Matrix.{entry}
use Rattle.sum_ops.proofs.cores.is_zero_above.Given as goal

-- the entries so far are 0
abbrev pub invariant-loop-above : goal.invariant-loop-above
invariant-loop-above l = (above : ℕ) → above < l.above → entry l.matrix above l.column ≡ pos 0
