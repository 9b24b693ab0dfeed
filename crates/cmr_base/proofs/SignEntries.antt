-- Entries and signs, and their products.
use Rattle.std.proofs.Common.{◌≡◌, ◌≢◌, ◌⊎◌, inl, inr, zero, suc, ℤ, pos, negsuc, ◌*ℤ◌, true, refl, arith}
use Rattle.cmr_base.specs.Matrix.{IsEntry, is_nonzero}
use Rattle.cmr_base.specs.Signing.{IsSign}
use Rattle.cmr_base.proofs.Integers.{sums}
pub use Rattle.cmr_base.proofs.SmallEntries.{negative_is_entry, product_is_entry, zero_is_entry}
pub use Rattle.cmr_base.proofs.SignedProducts.{sign_square, twice_by_sign}

pub sign_is_entry : (z : ℤ) → IsSign z → IsEntry z
sign_is_entry z (inl e) = record { low = omega (arith, sums); high = omega (arith, sums) }
sign_is_entry z (inr e) = record { low = omega (arith, sums); high = omega (arith, sums) }

pub zero_or_sign : (z : ℤ) → IsEntry z → (z ≡ pos 0) ⊎ IsSign z
zero_or_sign (pos zero) h = inl refl
zero_or_sign (pos (suc zero)) h = inr (inl refl)
zero_or_sign (pos (suc (suc n))) h = absurd (let high = h.high in omega (arith, sums))
zero_or_sign (negsuc zero) h = inr (inr refl)
zero_or_sign (negsuc (suc n)) h = absurd (let low = h.low in omega (arith, sums))

-- an entry that is not 0 is 1 or -1
pub sign_of_entry : (z : ℤ) → IsEntry z → z ≢ pos 0 → IsSign z
sign_of_entry z small h = elim (zero_or_sign z small) [ inl e ↦ absurd (h e) | inr u ↦ u ]

pub sign_nonzero : (z : ℤ) → IsSign z → z ≡ pos 0 → ⊥
sign_nonzero z (inl e) f = omega (arith, sums)
sign_nonzero z (inr e) f = omega (arith, sums)

pub sign_is_nonzero : (z : ℤ) → IsSign z → is_nonzero z ≡ true
sign_is_nonzero z (inl e) = rw e refl
sign_is_nonzero z (inr e) = rw e refl

pub sign-mul : (x y : ℤ) → IsSign x → IsSign y → IsSign (x *ℤ y)
sign-mul x y (inl e) (inl f) = rw (e, f) (inl refl)
sign-mul x y (inl e) (inr f) = rw (e, f) (inr refl)
sign-mul x y (inr e) (inl f) = rw (e, f) (inr refl)
sign-mul x y (inr e) (inr f) = rw (e, f) (inl refl)
