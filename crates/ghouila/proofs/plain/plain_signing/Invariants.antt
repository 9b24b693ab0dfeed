use Rattle.std.proofs.Common.{ℤ, List, ◌≤◌}
use Rattle.cmr_base.specs.Signing.{IsSigning, sign_number}
use Rattle.ghouila.proofs.plain.plain_signing.Given as goal

-- no smaller number gives a signing
abbrev pub invariant-loop-number : goal.invariant-loop-number
invariant-loop-number l = (others : List ℤ) → IsSigning l.matrix l.rows others → l.number ≤ sign_number others
