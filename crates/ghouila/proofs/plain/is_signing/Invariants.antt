use Rattle.std.proofs.Common.{ℕ, ◌<◌}
use Rattle.cmr_base.specs.Matrix.{IsEntry}
use Rattle.cmr_base.specs.Signing.{signed_sum}
use Rattle.ghouila.proofs.plain.is_signing.Given as goal

abbrev pub invariant-loop-column : goal.invariant-loop-column
invariant-loop-column l = (k : ℕ) → k < l.column → IsEntry (signed_sum l.matrix l.rows l.signs k)
