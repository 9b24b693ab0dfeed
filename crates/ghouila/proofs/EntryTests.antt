-- An integer is an entry, or it is not.
use Rattle.std.proofs.Common.{◌⊎◌, inl, inr, zero, suc, ℤ, pos, negsuc, arith}
use Rattle.cmr_base.specs.Matrix.{IsEntry}
use Rattle.cmr_base.proofs.Integers.{sums}

pub entry_or_not : (z : ℤ) → IsEntry z ⊎ (¬ IsEntry z)
entry_or_not (pos zero) = inl (record { low = omega (arith, sums); high = omega (arith, sums) })
entry_or_not (pos (suc zero)) = inl (record { low = omega (arith, sums); high = omega (arith, sums) })
entry_or_not (pos (suc (suc n))) = inr (λ h. let l = h.high in omega (arith, sums, l))
entry_or_not (negsuc zero) = inl (record { low = omega (arith, sums); high = omega (arith, sums) })
entry_or_not (negsuc (suc n)) = inr (λ h. let l = h.low in omega (arith, sums, l))
