-- Entries as signed bytes.
use Rattle.std.proofs.Common.{◌≡◌, inl, inr, ◌∙◌, ap, ap₂, sym, ℤ, pos, ◌*ℤ◌, w8, of_z, to_z, arith}
use Rattle.std.proofs.lemmas.Int.{ints}
use Rattle.cmr_base.specs.Matrix.{IsEntry}
use Rattle.cmr_base.specs.Signing.{IsSign}
use Rattle.cmr_base.proofs.SignEntries.{zero_or_sign}
pub use Rattle.cmr_base.proofs.SmallEntries.{entry_as_byte as kept_entry}

pub zero_byte : (z : ℤ) → IsEntry z → of_z w8 z ≡ 0 → z ≡ pos 0
zero_byte z h e = let low = h.low in let high = h.high in omega (arith, ints)

pub nonzero_byte : (z : ℤ) → IsEntry z → (of_z w8 z ≡ 0 → ⊥) → IsSign z
nonzero_byte z h other = elim (zero_or_sign z h) [
  | inl e ↦ absurd (other (omega (arith, ints)))
  | inr u ↦ u
]

pub same_bytes : (x y : ℤ) → IsEntry x → IsEntry y → of_z w8 x ≡ of_z w8 y → x ≡ y
same_bytes x y a b e = sym (kept_entry x a) ∙ ap (to_z w8) e ∙ kept_entry y b

pub product_bytes : (a p f : ℤ) → IsEntry a → IsEntry p → f ≡ to_z w8 (of_z w8 a) *ℤ to_z w8 (of_z w8 p) → f ≡ a *ℤ p
product_bytes a p f ha hp e = e ∙ ap₂ (λ (b c : ℤ). b *ℤ c) (kept_entry a ha) (kept_entry p hp)
